use Rattle.std.proofs.Common.{take, []}
use Rattle.std.specs.List.{flat_map}
use Rattle.exports.specs.Tied.Reach.{Gathers, wanted_by}
use Rattle.exports.proofs.reach.gather_lines.Given as goal

abbrev pub invariant-loop-line : goal.invariant-loop-line
invariant-loop-line l = Gathers [] l.asked (flat_map wanted_by (take l.line-index l.lines))
