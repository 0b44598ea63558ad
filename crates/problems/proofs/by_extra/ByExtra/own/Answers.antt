use Rattle.std.proofs.Common.{◌≡◌, ◌∙◌, ◌++◌, ◌∷◌, [], Some, ap, filter, sym}
use Rattle.markers.specs.Environment.{Texts}
use Rattle.std.specs.List.{slice_get}
use Rattle.problems.specs.Rules.{counts}
use Rattle.problems.specs.Tied.ByExtra.{Depending, names_extra}
use Rattle.problems.proofs.Merging.{behind-fewer, left-start}
use Rattle.problems.proofs.NamedPlaces.{IsNextNamed, named-end, named-next, names_and_counts}
use Rattle.problems.proofs.by_extra.ByExtra.own.Goals as goal

pub places-init : goal.places-init
places-init c =
    let naming = names_extra c.args.extra.now in
    left-start (names_and_counts c.args.self.now.environment c.args.extra.now) naming naming c.args.self.now.dependencies c.new-wanted.result c.naming-naming.result.now c.naming-naming.result.now c.new-wanted.ensures c.naming-naming.ensures c.naming-naming.ensures

pub places-preserved : goal.places-preserved
places-preserved c =
    let environment = c.args.self.now.environment in
    let extra = c.args.extra.now in
    let place = c.in-Some.place in
    let head : slice_get c.places.naming.now 0 ≡ Some place = sym c.first.ensures ∙ c.in-Some.is in
    let next : IsNextNamed environment extra c.args.self.now.dependencies c.places.wanted c.places.naming.now place = named-next environment extra c.args.self.now.dependencies c.places.wanted c.places.naming.now place c.places.invariant head in
    let same = ap (λ (d : Depending). d.environment) c.self.view_is in
    let put = c.in_ok-push_counted.ensures ∙ ap (λ (texts : Texts). c.places.wanted ++ filter (counts texts (Some extra)) (c.at-dependency.result.now ∷ [])) same in
    rw c.behind-naming.ensures (next.left c.at-dependency.result.now c.push_counted.new.wanted c.at-dependency.ensures put)

pub places-smaller : goal.places-smaller
places-smaller c = rw c.behind-naming.ensures (behind-fewer c.in-Some.place c.places.naming.now (sym c.first.ensures ∙ c.in-Some.is))

pub returns : goal.returns
returns c = named-end c.args.self.now.environment c.args.extra.now c.args.self.now.dependencies c.places.wanted c.places.naming.now c.places.invariant (sym c.first.ensures ∙ c.in_default.is)

pub at-dependency-requires : goal.at-dependency-requires
at-dependency-requires c =
    (named-next c.args.self.now.environment c.args.extra.now c.args.self.now.dependencies c.places.wanted c.places.naming.now c.in-Some.place c.places.invariant (sym c.first.ensures ∙ c.in-Some.is)).within
