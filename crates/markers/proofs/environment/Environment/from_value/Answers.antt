use Rattle.markers.proofs.EnvironmentFacts.{texts_in-environment}
use Rattle.markers.proofs.environment.Environment.from_value.Goals as goal

pub invariant_of-result : goal.invariant_of-result
invariant_of-result c = texts_in-environment _ _ c.in_ok-values.ensures
