use Rattle.std.proofs.Common.{◌≡◌, ◌≤◌, length, take}
use Rattle.pep440.specs.Blanks.{is_blank}
use Rattle.pep440.specs.Text.{trim_end}
use Rattle.pep440.proofs.blank.trim_end.Given as goal

abbrev pub invariant-loop-len : goal.invariant-loop-len
invariant-loop-len l = (l.len ≤ length l.text) × (trim_end (is_blank l.blank) (take l.len l.text) ≡ trim_end (is_blank l.blank) l.text)

abbrev pub decreases-loop-len : goal.decreases-loop-len
decreases-loop-len l = l.len
