use Rattle.std.proofs.Common.{◌≤◌, ◌<◌, ◌+◌, ◌-◌, ◌*◌, ℕ, Contains, length}
use Rattle.lists.specs.Bits.{places_of}
use Rattle.lists.proofs.bits.Bits.first_from.Given as goal

abbrev pub invariant-loop-at : goal.invariant-loop-at
invariant-loop-at l = record {
  low : l.low < 64;
  from : l.bound ≤ l.at * 64 + l.low;
  before : (n : ℕ) → Contains (places_of l.self-inside.words.items) n → l.bound ≤ n → l.at * 64 + l.low ≤ n;
}

abbrev pub decreases-loop-at : goal.decreases-loop-at
decreases-loop-at l = length l.self-inside.words.items - l.at
