use Rattle.std.proofs.Common.{◌≡◌, take, true}
use Rattle.std.specs.List.{AllByRecursion}
use Rattle.states.specs.TargetNames.{is_target_name}
use Rattle.journal.proofs.saved.recall_entries.Given as goal

abbrev pub invariant-loop-place : goal.invariant-loop-place
invariant-loop-place l = AllByRecursion (λ c. is_target_name c.target ≡ true) (take l.place l.changes)
