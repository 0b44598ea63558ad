use Rattle.std.proofs.Common.{◌≡◌, ◌∙◌, ◌++◌, ◌∷◌, [], Some, None, ap, filter, sym}
use Rattle.markers.specs.Environment.{Texts}
use Rattle.problems.specs.Rules.{counts}
use Rattle.problems.specs.Tied.ByExtra.{Depending, least, names_extra}
use Rattle.problems.proofs.Merging.{IsNext, covered-extra, left-end, left-next, left-start}
use Rattle.problems.proofs.by_extra.ByExtra.counted.Goals as goal

pub places-init : goal.places-init
places-init c = left-start (counts c.args.self.now.environment (Some c.args.extra.now)) (counts c.args.self.now.environment None) (names_extra c.args.extra.now) c.args.self.now.dependencies c.new-wanted.result c.bare-bare.result.now c.naming-naming.result.now c.new-wanted.ensures c.bare-bare.ensures c.naming-naming.ensures

pub places-preserved : goal.places-preserved
places-preserved c =
    let environment = c.args.self.now.environment in
    let extra = c.args.extra.now in
    let place = c.in-Some.place in
    let heads : least c.places.bare.now c.places.naming.now ≡ Some place = sym c.least.ensures ∙ c.in-Some.is in
    let next : IsNext (counts environment (Some extra)) (counts environment None) (names_extra extra) c.args.self.now.dependencies c.places.wanted c.places.bare.now c.places.naming.now place =
    left-next (counts environment (Some extra)) (counts environment None) (names_extra extra) (covered-extra c.other_extras_are_as_none.ensures environment extra) c.args.self.now.dependencies c.places.wanted c.places.bare.now c.places.naming.now place c.places.invariant heads in
    let same = ap (λ (d : Depending). d.environment) c.self.view_is in
    let put = c.in_ok-push_counted.ensures ∙ ap (λ (texts : Texts). c.places.wanted ++ filter (counts texts (Some extra)) (c.at-dependency.result.now ∷ [])) same in
    rw (c.behind-bare.ensures, c.behind-naming.ensures) (next.left c.at-dependency.result.now c.push_counted.new.wanted c.at-dependency.ensures put)

pub returns : goal.returns
returns c =
    let environment = c.args.self.now.environment in
    let extra = c.args.extra.now in
    left-end (counts environment (Some extra)) (counts environment None) (names_extra extra) (covered-extra c.other_extras_are_as_none.ensures environment extra) c.args.self.now.dependencies c.places.wanted c.places.bare.now c.places.naming.now c.places.invariant (sym c.least.ensures ∙ c.in_default.is)

pub at-dependency-requires : goal.at-dependency-requires
at-dependency-requires c =
    let environment = c.args.self.now.environment in
    let extra = c.args.extra.now in
    let place = c.in-Some.place in
    let heads : least c.places.bare.now c.places.naming.now ≡ Some place = sym c.least.ensures ∙ c.in-Some.is in
    (left-next (counts environment (Some extra)) (counts environment None) (names_extra extra) (covered-extra c.other_extras_are_as_none.ensures environment extra) c.args.self.now.dependencies c.places.wanted c.places.bare.now c.places.naming.now place c.places.invariant heads).within
