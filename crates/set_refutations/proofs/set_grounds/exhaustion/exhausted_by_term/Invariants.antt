use Rattle.std.proofs.Common.{◌≡◌, drop}
use Rattle.std.specs.List.{list_any}
use Rattle.set_refutations.specs.Tied.SetCases.{none_left_behind}
use Rattle.set_refutations.proofs.set_grounds.exhaustion.exhausted_by_term.Given as goal

abbrev pub invariant-loop-place : goal.invariant-loop-place
invariant-loop-place l = list_any (λ term. none_left_behind l.problem l.earlier l.conflict term term.versions) l.conflict
    ≡ list_any (λ term. none_left_behind l.problem l.earlier l.conflict term term.versions) (drop l.place l.conflict)
