use Rattle.std.proofs.Common.{take}
use Rattle.std.specs.List.{AllByRecursion}
use Rattle.states.specs.State.{IsAnEntry}
use Rattle.states.proofs.state.lock_for_lines.are_on_entries.Given as goal

abbrev pub invariant-loop-name : goal.invariant-loop-name
invariant-loop-name l = AllByRecursion (IsAnEntry l.entries) (take l.name-index l.names)
