use Rattle.std.proofs.Common.{take}
use Rattle.std.specs.List.{AllByRecursion}
use Rattle.journal.specs.Opens.{NamesEnvironment}
use Rattle.journal.proofs.history_reader.present.check_environments.Given as goal

abbrev pub invariant-loop-place : goal.invariant-loop-place
invariant-loop-place l = AllByRecursion NamesEnvironment (take l.place l.targets)
