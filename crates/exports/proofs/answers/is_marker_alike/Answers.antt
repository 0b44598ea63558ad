use Rattle.std.proofs.Common.{◌≡◌, ◌∙◌, Some, map, ap, sym}
use Rattle.std.specs.List.{list_all}
use Rattle.std.specs.Option.{option_copied}
use Rattle.markers.specs.MarkerRelations.{relations_in}
use Rattle.exports.specs.Tied.Answers.{is_marker_alike, is_relation_alike}
use Rattle.exports.proofs.EachAnswer.{all-mapped}
use Rattle.exports.proofs.answers.is_marker_alike.Goals as goal

pub returns : goal.returns
returns c =
    let there : option_copied c.args.marker ≡ Some c.in-Some.marker.now = ap option_copied c.in-Some.is in
    let found : map (λ relation. relation.now) c.as_slice.result.now ≡ relations_in c.in-Some.marker.now = c.as_slice.ensures ∙ c.in_ok-relations.ensures in
    c.are_relations_alike.ensures
    ∙ sym (all-mapped (is_relation_alike c.args.one.now c.args.other.now) (λ relation. relation.now) c.as_slice.result.now)
    ∙ ap (list_all (is_relation_alike c.args.one.now c.args.other.now)) found
    ∙ ap (is_marker_alike c.args.one.now c.args.other.now) (sym there)
