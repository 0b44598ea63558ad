use Rattle.std.proofs.Common.{take}
use Rattle.states.specs.Tied.LockForLines.{IsGrown}
use Rattle.states.proofs.state.reach.add_all.Given as goal

abbrev pub invariant-loop-name : goal.invariant-loop-name
invariant-loop-name l = IsGrown l.initial.names l.names (take l.name-index l.asked)
