use Rattle.std.proofs.Common.{◌≡◌, None, drop}
use Rattle.std.specs.List.{list_any}
use Rattle.set_refutations.specs.Tied.SetCases.{is_left_out}
use Rattle.problems.specs.Rules.{nodes_of}
use Rattle.set_refutations.proofs.set_grounds.exhaustion.exhausted_by_line.Given as goal

abbrev pub invariant-loop-place : goal.invariant-loop-place
invariant-loop-place l = list_any (λ line. list_any (is_left_out l.problem l.earlier l.conflict None) (nodes_of line)) l.lines
    ≡ list_any (λ line. list_any (is_left_out l.problem l.earlier l.conflict None) (nodes_of line)) (drop l.place l.lines)
