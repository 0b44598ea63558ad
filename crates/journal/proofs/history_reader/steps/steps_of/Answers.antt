use Rattle.std.proofs.Common.{◌∙◌, arith, inr, sym}
use Rattle.std.proofs.lemmas.Result.{err_from_is_err_and}
use Rattle.journal.proofs.StepFacts.{all_read, empty_by, filled_by, more_behind, one_more, refused}
use Rattle.journal.proofs.history_reader.steps.steps_of.Goals as goal

pub returns-in_err-change : goal.returns-in_err-change
returns-in_err-change c =
    let p = err_from_is_err_and c.from_residual.result c.from_residual.ensures.1 in
    rw (p.1, p.2) (refused c.args.header.now c.args.header.now.steps c.args.bytes.now c.loop-place.place c.loop-place.rest.now c.loop-place.changes.items c.loop-place.invariant.read c.in_err-change.field-0.0 c.loop-place-test.true c.in_err-change.ensures.step)

pub loop-place-preserved : goal.loop-place-preserved
loop-place-preserved c = record {
  read = rw c.in_ok-push.ensures.items
      (one_more c.args.header.now c.args.header.now.steps c.args.bytes.now c.loop-place.place c.loop-place.rest.now c.loop-place.changes.items c.loop-place.invariant.read (c.in_ok-change.change, c.in_ok-change.behind.now) c.loop-place-test.true c.in_ok-change.ensures.step);
  within = let shorter = c.in_ok-change.ensures.shorter in omega (arith, shorter, c.loop-place.invariant.within);
}

pub returns-then-not-is_empty : goal.returns-then-not-is_empty
returns-then-not-is_empty c =
    let filled = filled_by c.loop-place.rest.now (sym c.is_empty.ensures ∙ c.if-not-is_empty.true) in
    inr (more_behind c.args.header.now c.args.header.now.steps c.args.bytes.now c.loop-place.place c.loop-place.rest.now c.loop-place.changes.items c.loop-place.invariant.read c.loop-place-test.false (omega arith) filled)

pub returns : goal.returns
returns c =
    let empty = empty_by c.loop-place.rest.now (sym c.is_empty.ensures ∙ c.if-not-is_empty.false) in
    rw c.from_vec.ensures (all_read c.args.header.now c.args.header.now.steps c.args.bytes.now c.loop-place.place c.loop-place.rest.now c.loop-place.changes.items c.loop-place.invariant.read c.loop-place-test.false (omega arith) empty)
