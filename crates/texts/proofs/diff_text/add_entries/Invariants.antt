use Rattle.std.proofs.Common.{◌≡◌, ◌++◌, None, drop, false, option_copied, string_bytes}
use Rattle.texts.specs.DiffText.{entries_told}
use Rattle.texts.proofs.diff_text.add_entries.Given as goal

abbrev pub invariant-loop-entry : goal.invariant-loop-entry
invariant-loop-entry l =
    l.style.colors ≡ false → string_bytes l.text ++ entries_told l.change (option_copied l.last) (drop l.entry-index l.entry-items)
    ≡ string_bytes l.fn.text ++ entries_told l.change None l.entry-items
