use Rattle.std.proofs.Common.{◌≡◌, map, take}
use Rattle.details.proofs.refusal_details.environments_of.Given as goal

abbrev pub invariant-loop-environment : goal.invariant-loop-environment
invariant-loop-environment l = map (λ environment. environment.now) l.environments.items ≡ map (λ target. target.1) (take l.environment-index l.environment-items)
