use Rattle.std.proofs.Common.{◌≡◌, ◌++◌, map}
use Rattle.edits.specs.Tied.KeptVersions.{kept_first, kept_of}
use Rattle.edits.proofs.kept_versions.each_first.Given as goal

abbrev pub invariant-loop-name : goal.invariant-loop-name
invariant-loop-name l = map kept_of l.all.items ++ map (kept_first l.snapshot l.pins) l.name-iterator.rest.items ≡ map (kept_first l.snapshot l.pins) l.fn.targets
