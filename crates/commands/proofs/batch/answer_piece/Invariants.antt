use Rattle.std.proofs.Common.{◌≡◌, ◌++◌, length, false}
use Rattle.commands.specs.Tied.Standings.{AnswersAllBut, standing}
use Rattle.commands.proofs.batch.answer_piece.Given as goal

-- no write has failed, and the lines so far are answered
abbrev pub invariant-lines : goal.invariant-lines
invariant-lines g l =
    (g.K.Sink.has_failed l.sink ≡ false)
    × AnswersAllBut l.pool (l.fn.batch.pending ++ l.piece) (l.batch.pending ++ l.rest) (standing l.fn.session (g.K.Sink.contents l.fn.sink) l.fn.batch.tally) (standing l.session (g.K.Sink.contents l.sink) l.batch.tally)

abbrev pub decreases-lines : goal.decreases-lines
decreases-lines g l = length l.rest
