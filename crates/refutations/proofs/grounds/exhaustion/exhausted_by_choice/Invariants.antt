use Rattle.std.proofs.Common.{◌≡◌, drop, None}
use Rattle.std.specs.List.{list_any}
use Rattle.refutations.specs.Tied.Cases.{none_left}
use Rattle.problems.specs.Rules.{nodes_of, wants}
use Rattle.refutations.proofs.grounds.exhaustion.exhausted_by_choice.Given as goal

abbrev pub invariant-loop-place : goal.invariant-loop-place
invariant-loop-place l = l.earlier.hints ≡ None → list_any (λ one. list_any (λ wanted. list_any (none_left l.problem l.earlier.conflicts.now l.conflict) (nodes_of wanted)) (wants l.problem one.node one.version)) l.conflict
    ≡ list_any (λ one. list_any (λ wanted. list_any (none_left l.problem l.earlier.conflicts.now l.conflict) (nodes_of wanted)) (wants l.problem one.node one.version)) (drop l.place l.conflict)
