use Rattle.std.proofs.Common.{◌≡◌, ◌++◌, false, map, string_bytes, take}
use Rattle.std.specs.List.{flat_map}
use Rattle.texts.specs.DiffText.{variable_lines}
use Rattle.texts.proofs.target_text.add_variables.Given as goal

abbrev pub invariant-loop-variable : goal.invariant-loop-variable
invariant-loop-variable l =
    l.style.colors ≡ false → map string_bytes l.lines.items
    ≡ map string_bytes l.fn.lines.items ++ flat_map (variable_lines l.name l.old l.new) (take l.variable-index l.variable-items)
