use Rattle.journal.proofs.StatesBeforeFacts.{IsLedBack}
use Rattle.journal.proofs.history_reader.walk.walk_back.Given as goal

abbrev pub invariant-loop-behind : goal.invariant-loop-behind
invariant-loop-behind l = IsLedBack l.changes l.present l.behind l.state
