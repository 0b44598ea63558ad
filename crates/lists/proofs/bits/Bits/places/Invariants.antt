use Rattle.std.proofs.Common.{◌≡◌, ◌*◌, filter}
use Rattle.lists.specs.Bits.{has_bit, numbers_below}
use Rattle.lists.proofs.bits.Bits.places.Given as goal

abbrev pub invariant-loop-at : goal.invariant-loop-at
invariant-loop-at l = l.places.items ≡ filter (has_bit l.self-inside.words.items) (numbers_below (64 * l.at))
