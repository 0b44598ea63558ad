use Rattle.std.proofs.Common.{◌≡◌, ◌≤◌, drop, length}
use Rattle.pep440.specs.Tied.Reading.{strip_word}
use Rattle.pep440.proofs.words.strip_word.Given as goal

abbrev pub invariant-loop-i : goal.invariant-loop-i
invariant-loop-i l = (l.i ≤ length l.text) × (strip_word (drop l.i l.word) (drop l.i l.text) ≡ strip_word l.word l.text)
