use Rattle.std.proofs.lemmas.Result.{IfOk-weaker}
use Rattle.commands.specs.Tied.Standings.{standing}
use Rattle.commands.proofs.Batches.{advances_end, advances_some, ends_in_last}
use Rattle.commands.proofs.batch.answer_all.Goals as goal

pub returns-clause-advances : goal.returns-clause-advances
returns-clause-advances g c =
    let lines = c.in_ok-answer_lines.ensures in
    let last = c.answer_last.new in
    IfOk-weaker c.answer_last.result _ _ (λ _ advances. advances_end _ _ _ _ _ _ (standing last.session (g.K.Sink.contents last.sink) last.batch.tally) lines.reads lines.ends.end advances)
    c.answer_last.ensures.advances

pub returns-clause-done : goal.returns-clause-done
returns-clause-done g c =
    let last = c.answer_last.new in
    IfOk-weaker c.answer_last.result _ _ (λ _ advances. advances_some _ _ _ _ _ _ _ (standing last.session (g.K.Sink.contents last.sink) last.batch.tally) c.in_ok-answer_lines.ensures.reads advances)
    c.answer_last.ensures.advances

pub returns-clause-ends : goal.returns-clause-ends
returns-clause-ends g c =
    let lines = c.in_ok-answer_lines.ensures in
    ends_in_last c.answer_last.result _ _ _ _ _ _ _ _ _ lines.reads lines.ends.end lines.ends.source c.answer_last.ensures
