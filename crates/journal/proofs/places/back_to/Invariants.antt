use Rattle.std.proofs.Common.{◌≡◌, ◌-◌, Some}
use Rattle.std.specs.Prelude.{slice_get}
use Rattle.journal.proofs.places.back_to.Given as goal

abbrev pub invariant-loop-gone : goal.invariant-loop-gone
invariant-loop-gone g l = slice_get (g.H.History.past l.history).states (l.from - l.gone) ≡ Some l.moved
