use Rattle.std.proofs.Common.{◌≡◌, drop}
use Rattle.std.specs.List.{list_any}
use Rattle.texts.specs.OtherFields.{has_other_digest}
use Rattle.texts.proofs.entry_fields.has_other_wheels.Given as goal

abbrev pub invariant-loop-file : goal.invariant-loop-file
invariant-loop-file l =
    list_any (λ file. list_any (has_other_digest file) l.wheels) (drop l.file-index l.files) ≡ list_any (λ file. list_any (has_other_digest file) l.wheels) l.files
