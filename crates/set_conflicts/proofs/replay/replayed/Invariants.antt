use Rattle.set_conflicts.specs.Tied.Replay.{IsReplay}
use Rattle.set_conflicts.proofs.replay.replayed.Given as goal

abbrev pub invariant-loop-step : goal.invariant-loop-step
invariant-loop-step l = IsReplay l.table l.replay
