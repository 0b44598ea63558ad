use Rattle.std.proofs.Common.{refl}
use Rattle.std.proofs.lemmas.Result.{err_from_is_err_and}
use Rattle.snapshot.specs.Packages.{package_of}
use Rattle.snapshot.proofs.ItemsOneByOne.{goes_on, ends, is_done, none_left}
use Rattle.snapshot.proofs.PackageFacts.{all_read, all_refused, with_package}
use Rattle.snapshot.proofs.package.reading.listed_packages.Goals as goal

pub loop-place-init : goal.loop-place-init
loop-place-init c =
    let numbered = c.enumerate-place-items.ensures in
    rw (c.into_iter-place-iterator.ensures.into_iter_gives, numbered.count, numbered.source, c.into_iter.ensures.rest, c.new-packages.ensures.items, c.new-all_skipped.ensures.items) refl

pub returns-in_err-kept : goal.returns-in_err-kept
returns-in_err-kept c =
    let p = err_from_is_err_and c.from_residual.result c.from_residual.ensures.1 in
    let taken = c.in-Some.ensures.steps in
    rw (p.1, p.2) (all_refused _ _ (ends with_package _ package_of c.in-Some.place c.in-Some.value _ _ c.in_err-kept.field-0.0 _ taken.0.0 c.in_err-kept.ensures (rw (← taken.1) at c.loop-place.invariant)))

pub loop-place-preserved : goal.loop-place-preserved
loop-place-preserved c =
    let taken = c.in-Some.ensures.steps in
    rw (taken.2, ← taken.1, c.in_ok-push.ensures.items, c.in_ok-append.ensures.items, c.into_vec.ensures)
    (goes_on with_package _ package_of c.in-Some.place c.in-Some.value _ _ c.in_ok-kept.field-0 _ taken.0.0 c.in_ok-kept.ensures (rw (← taken.1) at c.loop-place.invariant))

pub returns : goal.returns
returns c =
    let left = c.in-None.ensures.steps in
    rw (c.from_vec.ensures, c.from_vec-2.ensures) (all_read _ _ (is_done with_package _ package_of c.loop-place.place-iterator.count _ _ (none_left c.loop-place.place-iterator.iter left.0.0) c.loop-place.invariant))
