use Rattle.std.proofs.Common.{refl}
use Rattle.std.proofs.lemmas.Result.{err_from_is_err_and}
use Rattle.snapshot.specs.Tied.Gathering.{gathered_view, gather_release}
use Rattle.snapshot.specs.Releases.{release_of}
use Rattle.snapshot.proofs.GatherFacts.{kept_gathered, kept_refused}
use Rattle.snapshot.proofs.ItemsOneByOne.{goes_on, ends, is_done, none_left}
use Rattle.snapshot.proofs.release.reading.gathered.Goals as goal

pub loop-place-init : goal.loop-place-init
loop-place-init c =
    let numbered = c.enumerate-place-items.ensures in
    rw (c.into_iter-place-iterator.ensures.into_iter_gives, numbered.count, numbered.source, c.into_iter.ensures.rest, c.new-gathering.ensures) refl

pub returns-in_err-outcome : goal.returns-in_err-outcome
returns-in_err-outcome c =
    let p = err_from_is_err_and c.from_residual.result c.from_residual.ensures.1 in
    let taken = c.in-Some.ensures.steps in
    rw (p.1, p.2) (kept_refused c.args.name.now _ _ (ends (gather_release c.args.name.now) _ release_of c.in-Some.place c.in-Some.value _ _ c.in_err-outcome.field-0.0 _ taken.0.0 c.in_err-outcome.ensures (rw (← taken.1) at c.loop-place.invariant)))

pub loop-place-preserved : goal.loop-place-preserved
loop-place-preserved c =
    let taken = c.in-Some.ensures.steps in
    rw (taken.2, ← taken.1, c.in_ok-add.ensures.kept)
    (goes_on (gather_release c.args.name.now) _ release_of c.in-Some.place c.in-Some.value _ _ c.in_ok-outcome.outcome _ taken.0.0 c.in_ok-outcome.ensures (rw (← taken.1) at c.loop-place.invariant))

pub returns : goal.returns
returns c =
    let left = c.in-None.ensures.steps in
    kept_gathered c.args.name.now _ (gathered_view c.loop-place.place-iterator.count c.loop-place.gathering) (is_done (gather_release c.args.name.now) _ release_of c.loop-place.place-iterator.count _ _ (none_left c.loop-place.place-iterator.iter left.0.0) c.loop-place.invariant)
