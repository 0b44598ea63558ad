use Rattle.journal.proofs.StateFacts.{IsLedOn}
use Rattle.journal.proofs.history_reader.walk.walk_on.Given as goal

abbrev pub invariant-loop-place : goal.invariant-loop-place
invariant-loop-place l = IsLedOn l.number l.changes l.present l.place l.state
