use Rattle.std.proofs.Common.{◌≡◌, ◌<◌, ◌∙◌, List, sym, ap, length, get_or, rules}
use Rattle.snapshot.specs.declared.package.Package.{Package}
use Rattle.std.specs.List.Sorted.{IsStrictlySortedBy}
use Rattle.snapshot.proofs.ReleasesFall.{named-fall}
use Rattle.snapshot.proofs.PlaceFacts.{found_within, found_releases, no_releases, place-found}
use Rattle.snapshot.proofs.snapshot.Snapshot.releases.Goals as goal

pub offset_bounds-as_slice-place : goal.offset_bounds-as_slice-place
offset_bounds-as_slice-place c =
    let at = place-found c.self.inside.places c.self.inside.packages c.args.name.now c.normal.result.now _ c.self.invariant.places c.normal.ensures c.in-Some.ensures.value in
    let within : c.in-Some.place.now < length c.as_slice.result.now = rw c.as_slice.ensures (found_within c.args.name.now c.self.inside.packages c.in-Some.place.now at) in
    search rules

pub bounds-as_slice-place : goal.bounds-as_slice-place
bounds-as_slice-place c =
    let at = place-found c.self.inside.places c.self.inside.packages c.args.name.now c.normal.result.now _ c.self.invariant.places c.normal.ensures c.in-Some.ensures.value in
    rw c.as_slice.ensures (found_within c.args.name.now c.self.inside.packages c.in-Some.place.now at)

pub returns-in-Some-clause-listed : goal.returns-in-Some-clause-listed
returns-in-Some-clause-listed c =
    let at = place-found c.self.inside.places c.self.inside.packages c.args.name.now c.normal.result.now _ c.self.invariant.places c.normal.ensures c.in-Some.ensures.value in
    let there : c.as_slice-in-Some.result.now ≡ (get_or c.self.inside.packages c.in-Some.place.now c.index-as_slice-place.result).releases =
    c.as_slice-in-Some.ensures ∙ ap (λ (ps : List Package). (get_or ps c.in-Some.place.now c.index-as_slice-place.result).releases) c.as_slice.ensures in
    rw (← c.self.view_is) (there ∙ sym (found_releases c.args.name.now c.self.inside.packages c.in-Some.place.now c.index-as_slice-place.result at))

pub returns-in-None-clause-listed : goal.returns-in-None-clause-listed
returns-in-None-clause-listed c =
    let at = place-found c.self.inside.places c.self.inside.packages c.args.name.now c.normal.result.now _ c.self.invariant.places c.normal.ensures c.in-None.ensures.value in
    rw (← c.self.view_is) (sym (no_releases c.args.name.now c.self.inside.packages at))

pub returns-in-Some-clause-fall : goal.returns-in-Some-clause-fall
returns-in-Some-clause-fall c =
    let at = place-found c.self.inside.places c.self.inside.packages c.args.name.now c.normal.result.now _ c.self.invariant.places c.normal.ensures c.in-Some.ensures.value in
    let there : c.as_slice-in-Some.result.now ≡ (get_or c.self.inside.packages c.in-Some.place.now c.index-as_slice-place.result).releases =
    c.as_slice-in-Some.ensures ∙ ap (λ (ps : List Package). (get_or ps c.in-Some.place.now c.index-as_slice-place.result).releases) c.as_slice.ensures in
    let named = there ∙ sym (found_releases c.args.name.now c.self.inside.packages c.in-Some.place.now c.index-as_slice-place.result at) in
    rw named (named-fall c.args.name.now c.self.inside.packages c.self.invariant.fall)

pub returns-in-None-clause-fall : goal.returns-in-None-clause-fall
unfolding IsStrictlySortedBy
returns-in-None-clause-fall c = tt
