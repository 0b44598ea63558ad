use Rattle.std.proofs.Common.{◌≡◌, ◌&&◌, Some, drop}
use Rattle.std.specs.List.{list_any}
use Rattle.set_refutations.specs.Tied.SetCases.{is_left_out}
use Rattle.problems.specs.Rules.{counts, nodes_of}
use Rattle.set_refutations.proofs.set_grounds.exhaustion.node_left_behind.Given as goal

abbrev pub invariant-loop-place : goal.invariant-loop-place
invariant-loop-place l = list_any (λ wanted. counts l.problem.environment l.term.node.extra wanted && list_any (is_left_out l.problem l.earlier l.conflict (Some l.term)) (nodes_of wanted)) l.dependencies
    ≡ list_any (λ wanted. counts l.problem.environment l.term.node.extra wanted && list_any (is_left_out l.problem l.earlier l.conflict (Some l.term)) (nodes_of wanted)) (drop l.place l.dependencies)
