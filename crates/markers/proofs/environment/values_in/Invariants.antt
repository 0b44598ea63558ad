use Rattle.std.proofs.Common.{◌≡◌, drop}
use Rattle.serde_json.specs.View.{view}
use Rattle.markers.specs.Environment.{all_variables, texts_in}
use Rattle.markers.proofs.EnvironmentFacts.{with_front}
use Rattle.markers.proofs.environment.values_in.Given as goal

abbrev pub invariant-loop-variable : goal.invariant-loop-variable
invariant-loop-variable l = with_front l.values (texts_in (view l.object) (drop l.variable-index all_variables)) ≡ texts_in (view l.object) all_variables
