use Rattle.std.proofs.Common.{◌≡◌, ℕ, ◌<◌, false, get_or}
use Rattle.lists.specs.Spaces.{is_space_or_tab}
use Rattle.commands.proofs.words.word_length.Given as goal

abbrev pub invariant-loop-place : goal.invariant-loop-place
invariant-loop-place l = (k : ℕ) → k < l.place → is_space_or_tab (get_or l.bytes k 0) ≡ false
