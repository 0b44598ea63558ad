use Rattle.std.proofs.lemmas.Result.{err_from_is_err_and}
use Rattle.serde_json.specs.View.{view}
use Rattle.markers.specs.Environment.{all_variables}
use Rattle.markers.proofs.EnvironmentFacts.{ends, goes_on, is_done}
use Rattle.markers.proofs.environment.values_in.Goals as goal

pub returns-in_err-value : goal.returns-in_err-value
returns-in_err-value c =
    let p = err_from_is_err_and c.from_residual.result c.from_residual.ensures.1 in
    rw (p.1, p.2) (ends c.loop-variable.values (view c.args.object.now) all_variables c.loop-variable.variable-index _ c.in_err-value.field-0.0 _ c.loop-variable-test.true c.in_err-value.ensures c.loop-variable.invariant)

pub loop-variable-preserved : goal.loop-variable-preserved
loop-variable-preserved c =
    rw c.in_ok-push.ensures.items
    (goes_on c.loop-variable.values (view c.args.object.now) all_variables c.loop-variable.variable-index _ c.in_ok-value.value _ c.loop-variable-test.true c.in_ok-value.ensures c.loop-variable.invariant)

pub returns : goal.returns
returns c = is_done c.loop-variable.values (view c.args.object.now) all_variables c.loop-variable.variable-index _ c.loop-variable-test.false c.loop-variable.invariant
