use Rattle.std.proofs.Common.{◌≡◌, ◌++◌, drop, take}
use Rattle.std.specs.List.{AllByRecursion}
use Rattle.changes.specs.Tied.Retargeted.{Becomes, carried_on, on_names}
use Rattle.changes.proofs.change.retargeted.all_become.Given as goal

abbrev pub invariant-loop-name : goal.invariant-loop-name
invariant-loop-name l = record {
  made : l.made.items ++ on_names (carried_on l.change l.digest l.targets) (drop l.name-index l.names) ≡ on_names (carried_on l.change l.digest l.targets) l.names;
  each : AllByRecursion (λ name. Becomes l.change l.digest l.targets name (carried_on l.change l.digest l.targets name)) (take l.name-index l.names);
}
