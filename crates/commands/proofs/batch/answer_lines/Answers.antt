use Rattle.std.proofs.lemmas.Result.{err_from_is_err_and}
use Rattle.commands.proofs.Batches.{ends_in_reading, ends_in_writing, reads_done, reads_done_in_writing, reads_piece}
use Rattle.commands.proofs.batch.answer_lines.Goals as goal

pub pieces-preserved : goal.pieces-preserved
pieces-preserved g c = (
  c.in-Ok.ensures.failure,
  c.in_ok-answer_piece.ensures.sink.failure,
  reads_piece _ _ _ _ c.pieces.batch.pending _ _ _ _ _ c.pieces.invariant.2 c.in-Ok.ensures.bytes c.in_ok-answer_piece.ensures.answers c.in_ok-answer_piece.ensures.unbroken,
)

pub returns-in-Err-clause-ends : goal.returns-in-Err-clause-ends
returns-in-Err-clause-ends g c =
    rw c.in-Err.ensures.fault
    (record {
      done = reads_done _ _ _ c.pieces.batch.pending _ _ c.pieces.invariant.2;
      end = tt;
      source = c.in-Err.ensures.failure;
      sink = c.pieces.invariant.1;
      left = ends_in_reading _ _ _ _ c.pieces.batch.pending _ _ c.pieces.invariant.2 c.in-Err.ensures.kept;
    })

pub returns-in_err-answer_piece-clause-ends : goal.returns-in_err-answer_piece-clause-ends
returns-in_err-answer_piece-clause-ends g c =
    let p = err_from_is_err_and c.from_residual.result c.from_residual.ensures.1 in
    let sink = c.in_err-answer_piece.ensures.sink in
    rw (p.1, p.2, sink.fault)
    (record {
      done = reads_done_in_writing _ _ _ c.pieces.batch.pending _ _ _ _ c.pieces.invariant.2 c.in_err-answer_piece.ensures.breaks;
      end = tt;
      source = c.in-Ok.ensures.failure;
      sink = sink.failure;
      left = ends_in_writing _ _ _ _ c.pieces.batch.pending _ _ _ _ c.pieces.invariant.2 c.in-Ok.ensures.bytes c.in_err-answer_piece.ensures.breaks;
    })
