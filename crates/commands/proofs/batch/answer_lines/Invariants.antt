use Rattle.std.proofs.Common.{◌≡◌, false}
use Rattle.commands.specs.Tied.Standings.{Reads, standing}
use Rattle.commands.proofs.batch.answer_lines.Given as goal

-- no call has failed, and what was read is answered up to a pending line
abbrev pub invariant-pieces : goal.invariant-pieces
invariant-pieces g l =
    (g.S.Source.has_failed l.source ≡ false)
    × (g.K.Sink.has_failed l.sink ≡ false)
    × Reads l.pool (g.S.Source.remaining l.fn.source) l.batch.pending (g.S.Source.remaining l.source) (standing l.fn.session (g.K.Sink.contents l.fn.sink) l.fn.batch.tally) (standing l.session (g.K.Sink.contents l.sink) l.batch.tally)

abbrev pub decreases-pieces : goal.decreases-pieces
decreases-pieces g l = g.S.Source.calls_left l.source
