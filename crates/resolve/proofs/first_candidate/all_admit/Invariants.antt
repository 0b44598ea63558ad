use Rattle.std.proofs.Common.{◌≡◌, drop}
use Rattle.std.specs.List.{list_all}
use Rattle.problems.specs.Admission.{admits}
use Rattle.resolve.proofs.first_candidate.all_admit.Given as goal

abbrev pub invariant-loop-place : goal.invariant-loop-place
invariant-loop-place l = list_all (λ wanted. admits l.problem wanted l.version) l.asks ≡ list_all (λ wanted. admits l.problem wanted l.version) (drop l.place l.asks)
