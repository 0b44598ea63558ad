use Rattle.std.proofs.Common.{◌≡◌, drop}
use Rattle.std.specs.List.{list_any}
use Rattle.problems.specs.Tied.ChoiceTests.{refuses}
use Rattle.refutations.proofs.grounds.refusal.place_refusing.Given as goal

abbrev pub invariant-loop-place : goal.invariant-loop-place
invariant-loop-place l = list_any (λ line. refuses l.problem line l.choice) l.lines ≡ list_any (λ line. refuses l.problem line l.choice) (drop l.place l.lines)
