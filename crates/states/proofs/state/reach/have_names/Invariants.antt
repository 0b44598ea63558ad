use Rattle.std.proofs.Common.{Contains, take}
use Rattle.std.specs.List.{AllByRecursion}
use Rattle.states.proofs.state.reach.have_names.Given as goal

abbrev pub invariant-loop-entry : goal.invariant-loop-entry
invariant-loop-entry l = AllByRecursion (λ e. Contains l.names e.name) (take l.entry-index l.entries)
