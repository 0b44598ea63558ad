use Rattle.std.proofs.Common.{◌≡◌, drop}
use Rattle.pep508.specs.Parts.{has_odd}
use Rattle.pep508.proofs.parts.has_odd.Given as goal

abbrev pub invariant-loop-place : goal.invariant-loop-place
invariant-loop-place l = has_odd l.bytes ≡ has_odd (drop l.place l.bytes)
