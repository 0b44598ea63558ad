use Rattle.std.proofs.Common.{◌≡◌, drop, fold}
use Rattle.edits.specs.Pins.{locked_by, with_agreed}
use Rattle.edits.proofs.retargeting.with_all_agreed.Given as goal

abbrev pub invariant-loop-target : goal.invariant-loop-target
invariant-loop-target l =
    fold (with_agreed l.targets) l.versions.entries (locked_by (drop l.target-index l.targets)) ≡ fold (with_agreed l.targets) l.fn.versions.entries (locked_by l.targets)
