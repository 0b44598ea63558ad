use Rattle.std.proofs.Common.{◌≡◌, map, take}
use Rattle.edits.specs.Tied.KeptVersions.{kept_named, kept_of}
use Rattle.edits.proofs.retargeting.each_named.Given as goal

abbrev pub invariant-loop-one : goal.invariant-loop-one
invariant-loop-one l = map kept_of l.all.items ≡ map (kept_named l.pool.index l.targets l.pins) (take l.one-index l.given)
