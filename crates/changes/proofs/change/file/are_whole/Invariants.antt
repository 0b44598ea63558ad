use Rattle.std.proofs.Common.{◌≡◌, drop}
use Rattle.changes.specs.Tied.Whole.{are_whole}
use Rattle.changes.proofs.change.file.are_whole.Given as goal

abbrev pub invariant-loop-place : goal.invariant-loop-place
invariant-loop-place l = are_whole (drop l.place l.lines) ≡ are_whole l.lines
