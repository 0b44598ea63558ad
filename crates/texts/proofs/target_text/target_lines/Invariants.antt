use Rattle.std.proofs.Common.{◌≡◌, false, map, string_bytes, take}
use Rattle.std.specs.List.{flat_map}
use Rattle.texts.specs.DiffText.{target_lines}
use Rattle.texts.proofs.target_text.target_lines.Given as goal

abbrev pub invariant-loop-change : goal.invariant-loop-change
invariant-loop-change l = l.style.colors ≡ false → map string_bytes l.lines.items ≡ flat_map target_lines (take l.change-index l.changes)
