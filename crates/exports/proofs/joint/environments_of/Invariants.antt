use Rattle.std.proofs.Common.{◌≡◌, map, take}
use Rattle.exports.proofs.joint.environments_of.Given as goal

abbrev pub invariant-loop-cover : goal.invariant-loop-cover
invariant-loop-cover l = l.texts.items ≡ map (λ cover. cover.marker) (take l.cover-index l.covers)
