use Rattle.std.proofs.Common.{◌≡◌, drop, None}
use Rattle.std.specs.List.{list_any}
use Rattle.refutations.specs.Tied.Cases.{none_left}
use Rattle.problems.specs.Rules.{nodes_of}
use Rattle.refutations.proofs.grounds.exhaustion.exhausted_by_line.Given as goal

abbrev pub invariant-loop-place : goal.invariant-loop-place
invariant-loop-place l = l.earlier.hints ≡ None → list_any (λ line. list_any (none_left l.problem l.earlier.conflicts.now l.conflict) (nodes_of line)) l.lines
    ≡ list_any (λ line. list_any (none_left l.problem l.earlier.conflicts.now l.conflict) (nodes_of line)) (drop l.place l.lines)
