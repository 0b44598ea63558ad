use Rattle.std.proofs.Common.{◌≡◌, drop}
use Rattle.std.specs.List.{list_any}
use Rattle.set_refutations.specs.Tied.SetCases.{refuses_all}
use Rattle.set_refutations.proofs.set_grounds.refusal.line_refusing.Given as goal

abbrev pub invariant-loop-place : goal.invariant-loop-place
invariant-loop-place l = list_any (λ line. refuses_all l.problem line l.term) l.lines ≡ list_any (λ line. refuses_all l.problem line l.term) (drop l.place l.lines)
