use Rattle.std.proofs.Common.{◌≡◌, take, true}
use Rattle.journal.specs.Saved.{stay_all}
use Rattle.journal.proofs.saved.version_of.Given as goal

abbrev pub invariant-loop-place : goal.invariant-loop-place
invariant-loop-place g l = stay_all (take l.place (g.H.History.changes l.history)) ≡ true
