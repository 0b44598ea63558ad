use Rattle.std.proofs.lemmas.Result.{err_from_is_err_and}
use Rattle.snapshot.specs.Files.{file_of}
use Rattle.snapshot.proofs.ItemsOneByOne.{push, gather-push, goes_on, ends, is_done, none_left}
use Rattle.snapshot.proofs.file.files_of.Goals as goal

pub loop-place-init : goal.loop-place-init
loop-place-init c =
    let numbered = c.enumerate-place-items.ensures in
    rw (c.into_iter-place-iterator.ensures.into_iter_gives, numbered.count, numbered.source, c.into_iter.ensures.rest, c.in_ok-files.ensures.items) (gather-push _)

pub returns-in_err-file : goal.returns-in_err-file
returns-in_err-file c =
    let p = err_from_is_err_and c.from_residual-in_err-file.result c.from_residual-in_err-file.ensures.1 in
    let taken = c.in-Some.ensures.steps in
    rw (p.1, p.2) (ends push _ file_of c.in-Some.place c.in-Some.value _ _ c.in_err-file.field-0.0 _ taken.0.0 c.in_err-file.ensures (rw (← taken.1) at c.loop-place.invariant))

pub loop-place-preserved : goal.loop-place-preserved
loop-place-preserved c =
    let taken = c.in-Some.ensures.steps in
    rw (taken.2, ← taken.1, c.in_ok-push.ensures.items)
    (goes_on push _ file_of c.in-Some.place c.in-Some.value _ _ c.in_ok-file.file _ taken.0.0 c.in_ok-file.ensures (rw (← taken.1) at c.loop-place.invariant))

pub returns : goal.returns
returns c =
    let left = c.in-None.ensures.steps in
    rw c.from_vec.ensures (is_done push _ file_of c.loop-place.place-iterator.count _ _ (none_left c.loop-place.place-iterator.iter left.0.0) c.loop-place.invariant)
