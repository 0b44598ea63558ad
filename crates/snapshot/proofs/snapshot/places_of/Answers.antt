use Rattle.std.proofs.Common.{◌≡◌, ◌∙◌, sym, ap, refl, true, false, take, inr, List, ℕ, Some}
use Rattle.std.proofs.lemmas.List.{take_all}
use Rattle.std.proofs.Math.ListN.{drop_of_length-le}
use Rattle.snapshot.specs.declared.package.Package.{Package}
use Rattle.snapshot.proofs.PlaceFacts.{ArePlaces-inserted, name-repeated, names-before, names-distinct, repeated-more, repeated-here}
use Rattle.snapshot.proofs.snapshot.places_of.Goals as goal

pub loop-place-init : goal.loop-place-init
loop-place-init c = record { distinct = refl; places = λ name. rw c.new-places.ensures.empty refl }

pub returns-then-contains_key-clause-err : goal.returns-then-contains_key-clause-err
returns-then-contains_key-clause-err c =
    let p = c.index-packages-place.result in
    let named : c.normal.result.now ≡ p.name = cc in
    let some = names-before c.loop-place.places (take c.loop-place.place c.args.packages.now) p c.normal.result.now c.contains_key.result true c.loop-place.invariant.places named c.contains_key.ensures c.if-contains_key.true in
    let here = repeated-here c.args.packages.now c.loop-place.place p c.loop-place-test.true c.index-packages-place.is some in
    let copied : p.name ≡ c.in_ok-clone.field-0 = ap (λ (q : Package). q.name) c.index-packages-place.is ∙ sym c.in_ok-clone.ensures.cases in
    inr (name-repeated c.args.packages.now c.in_ok-clone.field-0 (sym c.loop-place.invariant.distinct ∙ here ∙ ap (λ (name : List ℕ). Some name) copied))

pub loop-place-preserved : goal.loop-place-preserved
loop-place-preserved c =
    let p = c.index-packages-place.result in
    let named : c.normal.result.now ≡ p.name = cc in
    let none = names-before c.loop-place.places (take c.loop-place.place c.args.packages.now) p c.normal.result.now c.contains_key.result false c.loop-place.invariant.places named c.contains_key.ensures c.if-contains_key.false in
    let copied : c.normal-in-loop-place.result.now ≡ p.name = cc in
    let more = repeated-more c.args.packages.now c.loop-place.place p c.loop-place-test.true c.index-packages-place.is none in
    record {
      distinct = more ∙ c.loop-place.invariant.distinct;
      places = ArePlaces-inserted c.loop-place.places c.insert.new.self c.args.packages.now c.loop-place.place p c.in_ok-from_str.field-0 c.loop-place-test.true c.index-packages-place.is (c.in_ok-from_str.ensures.ok ∙ copied) c.loop-place.invariant.places none c.in_ok-insert.ensures.updates;
    }

pub returns : goal.returns
returns c =
    let whole = take_all c.loop-place.place c.args.packages.now c.loop-place-test.false in
    let over = drop_of_length-le c.args.packages.now c.loop-place-test.false in
    record {
      distinct = names-distinct c.args.packages.now (sym c.loop-place.invariant.distinct ∙ rw over refl);
      places = rw whole at c.loop-place.invariant.places;
      err = tt;
    }
