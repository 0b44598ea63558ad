use Rattle.std.proofs.Common.{◌≡◌, false, string_bytes, take}
use Rattle.std.specs.List.{flat_map}
use Rattle.texts.specs.DiffText.{first_lock_told}
use Rattle.texts.proofs.diff_text.first_lock_text.Given as goal

abbrev pub invariant-loop-target : goal.invariant-loop-target
invariant-loop-target l = l.style.colors ≡ false → string_bytes l.text ≡ flat_map first_lock_told (take l.target-index l.targets)
