use Rattle.std.proofs.Common.{refl}
use Rattle.std.proofs.lemmas.Result.{err_from_is_err_and}
use Rattle.commands.proofs.Batches.{answered_to, done_to, ends_at_once}
use Rattle.commands.proofs.batch.batch_to_its_end.Goals as goal

pub returns-clause-answered : goal.returns-clause-answered
returns-clause-answered g c = answered_to _ _ _ _ _ _ _ _ _ _ _ c.new-tally.ensures c.end.ensures c.in_ok-answer_all.ensures.advances

pub returns-clause-done : goal.returns-clause-done
returns-clause-done g c = done_to _ _ _ _ _ _ _ _ _ _ c.new-tally.ensures c.end.ensures c.in_ok-answer_all.ensures.done

pub returns-in_err-pending-clause-ends : goal.returns-in_err-pending-clause-ends
returns-in_err-pending-clause-ends g c =
    let p = err_from_is_err_and c.from_residual-in_err-pending.result c.from_residual-in_err-pending.ensures.1 in
    rw (p.1, p.2) (ends_at_once c.args.pool.now (g.S.Source.remaining c.args.source.now) c.args.session.now (g.K.Sink.contents c.args.sink.now) c.requires.source c.requires.sink)
