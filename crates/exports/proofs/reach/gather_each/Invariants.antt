use Rattle.std.proofs.Common.{take, ◌∷◌, []}
use Rattle.std.specs.List.{flat_map}
use Rattle.exports.specs.Tied.Reach.{Gathers}
use Rattle.exports.proofs.reach.gather_each.Given as goal

abbrev pub invariant-loop-requirement : goal.invariant-loop-requirement
invariant-loop-requirement l = Gathers l.fn.asked l.asked (flat_map (λ x. x ∷ []) (take l.requirement-index l.wanted))
