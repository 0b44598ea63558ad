use Rattle.std.proofs.Common.{take}
use Rattle.std.specs.List.{AllByRecursion}
use Rattle.pylock.specs.Packages.{IsPackage}
use Rattle.pylock.proofs.lock.recall_invariants.Given as goal

abbrev pub invariant-loop-place : goal.invariant-loop-place
invariant-loop-place l = AllByRecursion IsPackage (take l.place l.entries)
