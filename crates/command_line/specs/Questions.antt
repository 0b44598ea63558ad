-- The edit that is typed behind a subcommand, and the one that a question of `why` is about. All of it is reqlock's own rule.
use Rattle.std.specs.Prelude.{ℕ, List, [], ◌∷◌, Option, None, Some, codes, unwrap_or, option_map, if◌then◌else◌, slice_get}
use Rattle.std.specs.Str.{bytes_eq}
use Rattle.clap.specs.Words.{Row, Text, all_of, first_of}
use Rattle.edits.specs.declared.request.Edit.{Edit as EditValue}
use Rattle.edits.specs.declared.request.Edit.TheVariants.{Add, Constrain, Relock, Remove, Upgrade, UpgradeAll}

-- the upgrade of these names, or of all where there are none
abbrev pub upgrade_with : List Text → EditValue
upgrade_with [] = UpgradeAll
upgrade_with (name ∷ names) = Upgrade (name ∷ names)

-- the subcommands behind which an edit is typed
abbrev pub edit_names : List Text
edit_names = codes "add" ∷ codes "remove" ∷ codes "constrain" ∷ codes "upgrade" ∷ codes "relock" ∷ []

-- the edit that is typed behind a subcommand, with the texts that clap found: none where none is, or a text is missing
abbrev pub edit_of : Text → List Row → Option EditValue
edit_of name rows =
    if bytes_eq name (codes "add") then option_map Add (first_of (codes "text") rows) else
    if bytes_eq name (codes "remove") then option_map Remove (first_of (codes "name") rows) else
    if bytes_eq name (codes "constrain") then option_map (λ n. Constrain n (unwrap_or (first_of (codes "specifiers") rows) [])) (first_of (codes "name") rows) else
    if bytes_eq name (codes "upgrade") then Some (upgrade_with (unwrap_or (all_of (codes "names") rows) [])) else
    if bytes_eq name (codes "relock") then Some Relock else
    None

-- the constraint of the texts NAME and SPEC; without SPEC the specifiers of the line are taken away
abbrev pub text_at : List Text → ℕ → Text
text_at texts place = unwrap_or (slice_get texts place) []

abbrev pub constraint_of : List Text → EditValue
constraint_of texts = Constrain (text_at texts 0) (text_at texts 1)

-- the edit of `--upgrade [NAME ..]`, `--constrain NAME [SPEC]`, `--remove NAME` or a text, whichever is given, or a new lock
abbrev pub edit_among : Option (List Text) → Option (List Text) → Option Text → Option Text → EditValue
edit_among (Some names) constraint removal line = upgrade_with names
edit_among None (Some texts) removal line = constraint_of texts
edit_among None None (Some name) line = Remove name
edit_among None None None (Some line) = Add line
edit_among None None None None = Relock

-- the typed edit that a question is about, of what stands behind `why`
abbrev pub questioned : List Row → EditValue
questioned rows = edit_among (all_of (codes "upgrade") rows) (all_of (codes "constrain") rows) (first_of (codes "remove") rows) (first_of (codes "text") rows)
