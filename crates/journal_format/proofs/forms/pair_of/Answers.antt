use Rattle.std.proofs.Common.{inr, refl}
use Rattle.journal_format.proofs.FormFacts.{two_in-other}
use Rattle.journal_format.proofs.forms.pair_of.Goals as goal

pub returns-then-items-ne2 : goal.returns-then-items-ne2
returns-then-items-ne2 c = inr (rw (c.in_ok-items.ensures, two_in-other c.in_ok-items.items.now c.if-items-ne2.true) refl)
