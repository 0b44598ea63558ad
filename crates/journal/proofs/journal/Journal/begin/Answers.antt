use Rattle.std.proofs.Common.{inr, refl, sym}
use Rattle.journal.proofs.BegunFacts.{with-none}
use Rattle.journal.proofs.journal.Journal.begin.Goals as goal

pub returns-in-None : goal.returns-in-None
returns-in-None c = inr (refl, rw (sym c.self.view_is) (with-none c.self.inside.bytes c.self.inside.first c.in-None.is c.self.invariant))
