use Rattle.std.proofs.Common.{◌≡◌, ◌≤◌, ◌<◌, ◌^◌, ℕ, get_or, length, w64}
use Rattle.std.specs.Int.{bit_not}
use Rattle.std.specs.Prelude.{bit_and}
use Rattle.lists.proofs.bits.Bits.cut.Given as goal

abbrev pub invariant-loop-at : goal.invariant-loop-at
invariant-loop-at l = record {
  room : length l.self-inside.words.items ≡ length l.initial.self-inside.words.items;
  done : (k : ℕ) → k < l.at → get_or l.self-inside.words.items k 0 ≡ bit_and (get_or l.initial.self-inside.words.items k 0) (bit_not w64 (get_or l.other-inside.words.items k 0));
  small : (k : ℕ) → k < l.at → get_or l.other-inside.words.items k 0 < 2 ^ 64;
  rest : (k : ℕ) → l.at ≤ k → get_or l.self-inside.words.items k 0 ≡ get_or l.initial.self-inside.words.items k 0;
}
