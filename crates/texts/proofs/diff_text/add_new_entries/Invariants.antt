use Rattle.std.proofs.Common.{◌≡◌, ◌++◌, false, string_bytes, take}
use Rattle.std.specs.List.{flat_map}
use Rattle.texts.specs.DiffText.{as_line, entry_told}
use Rattle.texts.specs.declared.sign.Sign.TheVariants.{Came}
use Rattle.texts.proofs.diff_text.add_new_entries.Given as goal

abbrev pub invariant-loop-entry : goal.invariant-loop-entry
invariant-loop-entry l =
    l.style.colors ≡ false → string_bytes l.text ≡ string_bytes l.fn.text ++ flat_map (λ entry. as_line (entry_told Came entry)) (take l.entry-index l.entries)
