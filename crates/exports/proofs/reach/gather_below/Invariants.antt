use Rattle.std.proofs.Common.{take}
use Rattle.std.specs.List.{flat_map}
use Rattle.exports.specs.Tied.Reach.{Gathers, needs_of}
use Rattle.exports.proofs.reach.gather_below.Given as goal

abbrev pub invariant-loop-release : goal.invariant-loop-release
invariant-loop-release l = Gathers l.fn.asked l.asked (flat_map (needs_of l.above) (take l.release-index l.releases))
