use Rattle.std.proofs.Common.{◌≡◌, drop}
use Rattle.std.specs.List.{list_any}
use Rattle.refutations.specs.Tied.Cases.{is_same}
use Rattle.refutations.proofs.grounds.turns.place_behind.Given as goal

abbrev pub invariant-loop-place : goal.invariant-loop-place
invariant-loop-place l = list_any (is_same l.member) (drop l.from l.conflict) ≡ list_any (is_same l.member) (drop l.place l.conflict)
