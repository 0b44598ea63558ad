use Rattle.std.proofs.Common.{inr, refl}
use Rattle.journal_format.proofs.FormFacts.{four_in-other}
use Rattle.journal_format.proofs.forms.quadruple_of.Goals as goal

pub returns-then-items-ne4 : goal.returns-then-items-ne4
returns-then-items-ne4 c = inr (rw (c.in_ok-items.ensures, four_in-other c.in_ok-items.items.now c.if-items-ne4.true) refl)
