use Rattle.std.proofs.Common.{◌≡◌, take}
use Rattle.changes.proofs.change.spliced_lines.are_texts.Given as goal

abbrev pub invariant-loop-place : goal.invariant-loop-place
invariant-loop-place l = take l.place l.lines ≡ take l.place l.texts
