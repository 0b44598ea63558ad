use Rattle.std.proofs.Common.{◌≡◌, ◌≤◌, ◌<◌, ℕ, get_or, length}
use Rattle.std.specs.Prelude.{bit_or}
use Rattle.lists.proofs.bits.Bits.join.Given as goal

abbrev pub invariant-loop-at : goal.invariant-loop-at
invariant-loop-at l = record {
  room : length l.self-inside.words.items ≡ length l.initial.self-inside.words.items;
  done : (k : ℕ) → k < l.at → get_or l.self-inside.words.items k 0 ≡ bit_or (get_or l.initial.self-inside.words.items k 0) (get_or l.other-inside.words.items k 0);
  rest : (k : ℕ) → l.at ≤ k → get_or l.self-inside.words.items k 0 ≡ get_or l.initial.self-inside.words.items k 0;
}
