use Rattle.std.proofs.Common.{◌≡◌, ◌<◌, ◌^◌, ℕ, get_or, w64}
use Rattle.std.specs.Int.{bit_not}
use Rattle.std.specs.Prelude.{bit_and}
use Rattle.lists.proofs.bits.Bits.lies_within.Given as goal

abbrev pub invariant-loop-at : goal.invariant-loop-at
invariant-loop-at l = record {
  apart : (k : ℕ) → k < l.at → bit_and (get_or l.self-inside.words.items k 0) (bit_not w64 (get_or l.other-inside.words.items k 0)) ≡ 0;
  small : (k : ℕ) → k < l.at → get_or l.other-inside.words.items k 0 < 2 ^ 64;
}
