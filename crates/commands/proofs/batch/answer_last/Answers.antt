use Rattle.std.proofs.Common.{◌∙◌, ◌<◌, length, sym}
use Rattle.commands.proofs.Batches.{answers_last, long_line}
use Rattle.commands.proofs.batch.answer_last.Goals as goal

pub returns : goal.returns
returns g c =
    let line = c.as_bytes-line.ensures.line in
    let long : 0 < length c.args.batch.now.pending = long_line _ _ line (sym c.is_empty.ensures ∙ c.if-is_empty.false) in
    answers_last c.answer_line.result c.args.pool.now c.args.batch.now.pending _ _ _ c.as_bytes-line.ensures.unbroken long c.answer_line.ensures
