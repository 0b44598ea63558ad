use Rattle.std.proofs.Common.{◌≤◌, ◌-◌, ℕ, length}
use Rattle.lists.proofs.BitSets.{AreAlike}
use Rattle.lists.proofs.bits.grow_to.Given as goal

abbrev pub invariant-loop-words : goal.invariant-loop-words
invariant-loop-words l = record {
  alike : AreAlike l.words.items l.fn.words.items;
  bound : (bound : ℕ) → length l.fn.words.items ≤ bound → l.count ≤ bound → length l.words.items ≤ bound;
}

abbrev pub decreases-loop-words : goal.decreases-loop-words
decreases-loop-words l = l.count - length l.words.items
