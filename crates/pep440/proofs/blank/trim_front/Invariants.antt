use Rattle.std.proofs.Common.{◌≡◌, drop}
use Rattle.pep440.specs.Blanks.{is_blank}
use Rattle.pep440.specs.Text.{trim_front}
use Rattle.pep440.proofs.blank.trim_front.Given as goal

abbrev pub invariant-loop-i : goal.invariant-loop-i
invariant-loop-i l = trim_front (is_blank l.blank) (drop l.i l.text) ≡ trim_front (is_blank l.blank) l.text
