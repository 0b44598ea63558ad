use Rattle.std.proofs.Common.{inr, refl}
use Rattle.journal_format.proofs.FormFacts.{three_in-other}
use Rattle.journal_format.proofs.forms.triple_of.Goals as goal

pub returns-then-items-ne3 : goal.returns-then-items-ne3
returns-then-items-ne3 c = inr (rw (c.in_ok-items.ensures, three_in-other c.in_ok-items.items.now c.if-items-ne3.true) refl)
