use Rattle.std.proofs.Common.{◌≡◌, ◌++◌, drop, false, string_bytes}
use Rattle.texts.specs.DiffText.{lines_told}
use Rattle.texts.proofs.diff_text.add_lines.Given as goal

abbrev pub invariant-loop-line : goal.invariant-loop-line
invariant-loop-line l =
    l.style.colors ≡ false → string_bytes l.text ++ lines_told l.sign l.number (drop l.line-index l.lines) ≡ string_bytes l.fn.text ++ lines_told l.sign l.fn.first l.lines
