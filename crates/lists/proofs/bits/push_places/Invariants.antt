use Rattle.std.proofs.Common.{◌≡◌, ◌+◌, ◌*◌, filter}
use Rattle.lists.specs.Bits.{has_bit, numbers_below}
use Rattle.lists.proofs.bits.push_places.Given as goal

abbrev pub invariant-loop-bit : goal.invariant-loop-bit
invariant-loop-bit l = l.places.items ≡ filter (has_bit l.words) (numbers_below (64 * l.at + l.bit))
