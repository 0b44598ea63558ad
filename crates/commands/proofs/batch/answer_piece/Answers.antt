use Rattle.std.proofs.Common.{◌∙◌}
use Rattle.std.proofs.lemmas.Result.{err_from_is_err_and}
use Rattle.commands.proofs.Batches.{answers_line, answers_kept, breaks_in_line}
use Rattle.commands.proofs.Lines.{unbroken_kept}
use Rattle.commands.proofs.batch.answer_piece.Goals as goal

pub lines-preserved : goal.lines-preserved
lines-preserved g c =
    let before = rw c.in-Some.ensures.split at c.lines.invariant.1 in
    let advances = rw c.keep.ensures.line at c.in_ok-answer_line.ensures.advances in
    (c.in_ok-answer_line.ensures.sink.failure, rw c.clear.ensures.empty (answers_line _ _ c.lines.batch.pending c.in-Some.line.now c.in-Some.behind.now _ _ _ c.keep.ensures.unbroken c.in-Some.ensures.line before advances))

pub returns-clause-answers : goal.returns-clause-answers
returns-clause-answers g c = rw c.keep-2.ensures.line (answers_kept _ _ c.lines.batch.pending c.lines.rest.now _ _ c.keep-2.ensures.unbroken c.in_default.ensures.none c.lines.invariant.1)

pub returns-clause-unbroken : goal.returns-clause-unbroken
returns-clause-unbroken g c = rw c.keep-2.ensures.line (unbroken_kept 65537 c.lines.batch.pending c.lines.rest.now c.keep-2.ensures.unbroken c.in_default.ensures.none)

pub returns-in_err-answer_line-clause-breaks : goal.returns-in_err-answer_line-clause-breaks
returns-in_err-answer_line-clause-breaks g c =
    let before = rw c.in-Some.ensures.split at c.lines.invariant.1 in
    let breaks = rw c.keep.ensures.line at c.in_err-answer_line.ensures.breaks in
    let p = err_from_is_err_and c.from_residual.result c.from_residual.ensures.1 in
    rw p.1 (breaks_in_line _ _ c.lines.batch.pending c.in-Some.line.now c.in-Some.behind.now _ _ _ c.keep.ensures.unbroken c.in-Some.ensures.line before breaks)

pub returns-in_err-answer_line-clause-sink : goal.returns-in_err-answer_line-clause-sink
returns-in_err-answer_line-clause-sink g c =
    let p = err_from_is_err_and c.from_residual.result c.from_residual.ensures.1 in
    let sink = c.in_err-answer_line.ensures.sink in rw p.1 (record { failure = sink.failure; fault = p.2 ∙ sink.fault })
