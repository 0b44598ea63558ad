use Rattle.std.proofs.Common.{◌≡◌, ◌∙◌, Some, map, true, ap}
use Rattle.std.specs.List.{AllByRecursion}
use Rattle.std.specs.Option.{option_copied}
use Rattle.markers.specs.MarkerRelations.{RelationAlike, relations_in}
use Rattle.exports.specs.Tied.Answers.{is_marker_alike}
use Rattle.exports.proofs.EachAnswer.{marker-settled}
use Rattle.exports.proofs.KeptConditions.{kept-as}
use Rattle.exports.proofs.kept_conditions.keep_marker.Goals as goal

pub returns : goal.returns
returns c =
    let there : option_copied c.args.marker ≡ Some c.in-Some.marker.now = ap option_copied c.in-Some.is in
    let found : map (λ relation. relation.now) c.as_slice.result.now ≡ relations_in c.in-Some.marker.now = c.as_slice.ensures ∙ c.in_ok-relations.ensures in
    kept-as c.args.environment.now c.args.conditions.now c.keep_relations.new.conditions
    (λ other. AllByRecursion (λ relation. RelationAlike c.args.environment.now other relation.now) c.as_slice.result.now)
    (λ other. is_marker_alike c.args.environment.now other (option_copied c.args.marker) ≡ true)
    c.in_ok-keep_relations.ensures
    (λ other h. ap (is_marker_alike c.args.environment.now other) there
    ∙ marker-settled c.args.environment.now other c.in-Some.marker.now (λ relation. relation.now) c.as_slice.result.now found h)
