use Rattle.std.proofs.Common.{◌≡◌, drop}
use Rattle.std.specs.List.{list_any}
use Rattle.set_refutations.specs.Tied.SetCases.{refuses_all}
use Rattle.set_refutations.proofs.set_grounds.refusal.refused.Given as goal

abbrev pub invariant-loop-place : goal.invariant-loop-place
invariant-loop-place l = list_any (λ term. list_any (λ line. refuses_all l.problem line term) l.lines) l.conflict
    ≡ list_any (λ term. list_any (λ line. refuses_all l.problem line term) l.lines) (drop l.place l.conflict)
