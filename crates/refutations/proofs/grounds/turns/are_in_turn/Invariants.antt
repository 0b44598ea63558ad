use Rattle.std.proofs.Common.{◌≡◌, drop}
use Rattle.std.specs.List.{list_all}
use Rattle.refutations.specs.Tied.Cases.{is_within}
use Rattle.refutations.proofs.grounds.turns.are_in_turn.Given as goal

abbrev pub invariant-loop-place : goal.invariant-loop-place
invariant-loop-place l = list_all (is_within l.conflict l.choice) l.old ≡ list_all (is_within l.conflict l.choice) (drop l.place l.old)
