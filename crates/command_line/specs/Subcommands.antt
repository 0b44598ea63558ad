-- The subcommand that the words of a command line name, by what clap found before it and behind it. All of it is reqlock's own
-- rule.
use Rattle.std.specs.Prelude.{◌≡◌, ◌≢◌, ◌<◌, ◌^◌, ℕ, true, false, List, [], Option, None, Some, codes, if◌then◌else◌, IsSomeAnd}
use Rattle.std.specs.Borrow.{Bor}
use Rattle.std.specs.Option.{option_map_or}
use Rattle.std.specs.Str.{bytes_eq}
use Rattle.std.specs.Str.Parse.{IsNumeral, digits_value, without_leading_plus}
use Rattle.clap.specs.Words.{Row, Text, first_of}
use Rattle.command_line.specs.declared.invocation.AskedEdit.{AskedEdit}
use Rattle.command_line.specs.declared.invocation.AskedEdit.TheVariants.{Typed, Replace, Retarget}
use Rattle.command_line.specs.declared.invocation.Beginning.{Beginning}
use Rattle.command_line.specs.declared.invocation.Beginning.TheVariants.{At, Back}
use Rattle.command_line.specs.declared.invocation.ColorChoice.{ColorChoice}
use Rattle.command_line.specs.declared.invocation.ColorChoice.TheVariants.{Always, Auto, Never}
use Rattle.command_line.specs.declared.invocation.DiffRange.{DiffRange}
use Rattle.command_line.specs.declared.invocation.DiffRange.TheVariants.{LastStep, Since, Between}
use Rattle.command_line.specs.declared.invocation.Export.{Export as ExportValue}
use Rattle.command_line.specs.declared.invocation.ExportFormat.{ExportFormat}
use Rattle.command_line.specs.declared.invocation.ExportFormat.TheVariants.{Dot, Hashes, Pylock}
use Rattle.command_line.specs.declared.invocation.Format.{Format as FormatValue}
use Rattle.command_line.specs.declared.invocation.Format.TheVariants.{Lines, Json}
use Rattle.command_line.specs.declared.invocation.EditOptions.{EditOptions}
use Rattle.command_line.specs.declared.invocation.InitOptions.{InitOptions}
use Rattle.command_line.specs.declared.invocation.NewLines.{NewLines}
use Rattle.command_line.specs.declared.invocation.NewLines.TheVariants.{File, Line, Was}
use Rattle.command_line.specs.declared.invocation.NewTargets.{NewTargets}
use Rattle.command_line.specs.declared.invocation.Question.{Question}
use Rattle.command_line.specs.declared.invocation.Question.TheVariants as questions
use Rattle.command_line.specs.declared.invocation.Replacement.{Replacement}
use Rattle.command_line.specs.declared.invocation.Saving.{Saving as SavingValue}
use Rattle.command_line.specs.declared.invocation.Saving.TheVariants.{Save, DryRun}
use Rattle.command_line.specs.declared.invocation.Shown.{Shown}
use Rattle.command_line.specs.declared.invocation.Shown.TheVariants.{Table, Entry, Tree}
use Rattle.command_line.specs.declared.invocation.Subcommand.{Subcommand}
use Rattle.command_line.specs.declared.invocation.Subcommand.TheVariants.{Init, Edit, Undo, Redo, Forget, Batch, Try, Show, Log, Diff, Check, Outdated, Export, Skipped, Why}
use Rattle.command_line.specs.declared.invocation.Verbosity.{Verbosity as VerbosityValue}
use Rattle.command_line.specs.declared.invocation.Verbosity.TheVariants.{Quiet, Usual, Verbose}
use Rattle.command_line.specs.declared.invocation.Told.{Told as ToldValue}
use Rattle.command_line.specs.declared.invocation.Told.TheVariants.{Conflicts, LongSentences, Sentences}
use Rattle.command_line.specs.Misuses.{is_given}
use Rattle.command_line.specs.Options.{all_chosen, chosen, has_flag, is_flagged, text_of, values_in}
use Rattle.command_line.specs.Questions.{edit_of, questioned, text_at}

-- the index and the environments that are given
abbrev pub index_of : List Row → List Row → Option Text
index_of before behind = chosen before behind (codes "index")

abbrev pub environments_of : List Row → List Row → List Text
environments_of before behind = all_chosen before behind (codes "env")

-- the values of `--pins`, as they stand behind the subcommand
abbrev pub pins_of : List Row → List Text
pins_of behind = values_in behind (codes "pins")

-- index, environments and pins, each value of `--env` as it stands, and at least one
abbrev pub HasInitOptions : List Row → List Row → InitOptions → Type 0
HasInitOptions before behind options =
    (index_of before behind ≡ Some options.index.now) × (options.environments ≡ environments_of before behind) × (environments_of before behind ≢ [])
    × (options.pins ≡ pins_of behind)

-- the environments of other targets, each value of `--env` as it stands, and at least one; and pins
abbrev pub IsNewTargets : List Row → List Row → NewTargets → Type 0
IsNewTargets before behind targets =
    (targets.environments ≡ environments_of before behind) × (environments_of before behind ≢ []) × (targets.pins ≡ pins_of behind)

-- the index that an edit is made over, whether it keeps what is locked, and whether it is made only if it is needed
abbrev pub HasEditOptions : List Row → List Row → EditOptions → Type 0
HasEditOptions before behind options =
    (index_of before behind ≡ Some options.index.now) × (options.keeps_locked ≡ is_flagged before behind (codes "keep-locked"))
    × (options.only_if_needed ≡ has_flag behind (codes "if-needed"))

-- the new lines: those of the file NEW, which the argument `new` names; else those that the file in the folder has now, with what it
-- was; else one line
abbrev pub HasNewLines : Text → List Row → NewLines → Type 0
HasNewLines new behind (File file) = first_of new behind ≡ Some file.now
HasNewLines new behind (Was old) = (first_of new behind ≡ None) × (first_of (codes "was") behind ≡ Some old.now)
HasNewLines new behind (Line name text) =
    (first_of new behind ≡ None) × (first_of (codes "was") behind ≡ None) × (name.now ≡ text_at (values_in behind (codes "line")) 0)
    × (text.now ≡ text_at (values_in behind (codes "line")) 1)

abbrev pub IsReplacement : Text → List Row → Replacement → Type 0
IsReplacement new behind replacement = HasNewLines new behind replacement.lines × (replacement.pins ≡ pins_of behind)

-- whether a step is saved, and how a result is printed
abbrev pub saving_of : List Row → List Row → SavingValue
saving_of before behind = if is_flagged before behind (codes "dry-run") then DryRun else Save

abbrev pub format_of : List Row → List Row → FormatValue
format_of before behind = if is_flagged before behind (codes "json") then Json else Lines

-- what of the lock is printed; beside a name stands no `--tree` (`IsWellUsed`)
abbrev pub IsShown : List Row → List Row → Shown → Type 0
IsShown before behind Table = (first_of (codes "name") behind ≡ None) × (has_flag behind (codes "tree") ≡ false)
IsShown before behind (Entry name over) = (first_of (codes "name") behind ≡ Some name.now) × (text_of over ≡ index_of before behind)
IsShown before behind Tree = (first_of (codes "name") behind ≡ None) × (has_flag behind (codes "tree") ≡ true)

-- a text that is a number: decimal digits, with a plus in front or none, and what fits a `usize`
abbrev pub IsPlaceText : Text → Type 0
IsPlaceText text = IsNumeral 10 (without_leading_plus text) × (digits_value 10 (without_leading_plus text) < 2 ^ 64)

-- the place of the history that a text is
abbrev pub IsPlace : ℕ → Text → Type 0
IsPlace place text = IsPlaceText text × (place ≡ digits_value 10 (without_leading_plus text))

-- the places that are compared: FROM and TO, as far as they are given
abbrev pub IsRange : List Row → DiffRange → Type 0
IsRange behind LastStep = first_of (codes "from") behind ≡ None
IsRange behind (Since from) = IsSomeAnd (first_of (codes "from") behind) (IsPlace from) × (first_of (codes "to") behind ≡ None)
IsRange behind (Between from to) = IsSomeAnd (first_of (codes "from") behind) (IsPlace from) × IsSomeAnd (first_of (codes "to") behind) (IsPlace to)

-- where the history is to begin: at the place that `--before` names, else so many states before the present one as `--keep` says
abbrev pub IsBeginning : List Row → Beginning → Type 0
IsBeginning behind (At place) = IsSomeAnd (first_of (codes "before") behind) (IsPlace place)
IsBeginning behind (Back count) = (first_of (codes "before") behind ≡ None) × IsSomeAnd (first_of (codes "keep") behind) (IsPlace count)

-- the index over which `check` tells whether the lock is current
abbrev pub IsChecked : List Row → List Row → Option (Bor Text) → Type 0
IsChecked before behind None = has_flag behind (codes "current") ≡ false
IsChecked before behind (Some over) = (has_flag behind (codes "current") ≡ true) × (index_of before behind ≡ Some over.now)

-- how much is told, and whether in colors
abbrev pub verbosity_of : List Row → List Row → VerbosityValue
verbosity_of before behind =
    if is_flagged before behind (codes "quiet") then Quiet else
    if is_flagged before behind (codes "verbose") then Verbose else
    Usual

abbrev pub color_named : Text → ColorChoice
color_named value =
    if bytes_eq value (codes "always") then Always else
    if bytes_eq value (codes "never") then Never else
    Auto

abbrev pub color_of : List Row → List Row → ColorChoice
color_of before behind = option_map_or color_named (chosen before behind (codes "color")) Auto

-- how `why` tells what it knows
abbrev pub told_of : List Row → ToldValue
told_of behind =
    if has_flag behind (codes "long") then LongSentences else
    if has_flag behind (codes "explain") then Sentences else
    Conflicts

-- in which form a lock is printed, of which target and over which index, and which environments are asked about
abbrev pub format_named : Text → ExportFormat
format_named value =
    if bytes_eq value (codes "dot") then Dot else
    if bytes_eq value (codes "pylock") then Pylock else
    Hashes

abbrev pub export_format_of : List Row → ExportFormat
export_format_of behind = option_map_or format_named (first_of (codes "format") behind) Hashes

abbrev pub IsExport : List Row → List Row → ExportValue → Type 0
IsExport before behind export =
    (export.format ≡ export_format_of behind) × (text_of export.target ≡ first_of (codes "target") behind) × (text_of export.index ≡ index_of before behind)
    × (export.covers ≡ values_in behind (codes "covers"))

-- the edit that a subcommand of this name makes: one that is typed, other lines, or other targets
abbrev pub IsAskedEdit : List Row → List Row → Text → AskedEdit → Type 0
IsAskedEdit before behind name (Typed edit) = edit_of name behind ≡ Some edit
IsAskedEdit before behind name (Replace replacement) = (name ≡ codes "replace") × IsReplacement (codes "new") behind replacement
IsAskedEdit before behind name (Retarget targets) = (name ≡ codes "retarget") × IsNewTargets before behind targets

-- a subcommand of this name makes none, or lacks a text
abbrev pub MakesNoEdit : Text → List Row → Type 0
MakesNoEdit name behind = (edit_of name behind ≡ None) × (name ≢ codes "replace") × (name ≢ codes "retarget")

-- the edit that a question is about: other targets, other lines, or one that is typed
abbrev pub IsAskedAbout : List Row → List Row → AskedEdit → Type 0
IsAskedAbout before behind (Retarget targets) = (has_flag behind (codes "retarget") ≡ true) × IsNewTargets before behind targets
IsAskedAbout before behind (Replace replacement) =
    (has_flag behind (codes "retarget") ≡ false) × (is_given behind (codes "replace") ≡ true) × IsReplacement (codes "replace") behind replacement
IsAskedAbout before behind (Typed edit) = (has_flag behind (codes "retarget") ≡ false) × (is_given behind (codes "replace") ≡ false) × (edit ≡ questioned behind)

-- the question of `why`: about `init`, about a release, or about an edit
abbrev pub IsQuestion : List Row → List Row → Question → Type 0
IsQuestion before behind (questions.Init options line) = (has_flag behind (codes "init") ≡ true) × HasInitOptions before behind options × (text_of line ≡ first_of (codes "text") behind)
IsQuestion before behind (questions.Release release over) =
    (has_flag behind (codes "init") ≡ false) × (first_of (codes "not") behind ≡ Some release.now) × (index_of before behind ≡ Some over.now)
IsQuestion before behind (questions.Edit asked options) =
    (has_flag behind (codes "init") ≡ false) × (first_of (codes "not") behind ≡ None) × IsAskedAbout before behind asked × HasEditOptions before behind options

-- a subcommand of this name
abbrev pub IsSubcommand : List Row → List Row → Text → Subcommand → Type 0
IsSubcommand before behind name (Init options saving) = (name ≡ codes "init") × HasInitOptions before behind options × (saving ≡ saving_of before behind)
IsSubcommand before behind name (Edit asked options saving) = IsAskedEdit before behind name asked × HasEditOptions before behind options × (saving ≡ saving_of before behind)
IsSubcommand before behind name (Undo saving) = (name ≡ codes "undo") × (saving ≡ saving_of before behind)
IsSubcommand before behind name (Redo saving) = (name ≡ codes "redo") × (saving ≡ saving_of before behind)
IsSubcommand before behind name (Forget beginning saving) = (name ≡ codes "forget") × IsBeginning behind beginning × (saving ≡ saving_of before behind)
IsSubcommand before behind name (Batch options all) = (name ≡ codes "batch") × HasEditOptions before behind options × (all ≡ has_flag behind (codes "all-or-none"))
IsSubcommand before behind name (Try options) = (name ≡ codes "try") × HasInitOptions before behind options
IsSubcommand before behind name (Show shown format) = (name ≡ codes "show") × IsShown before behind shown × (format ≡ format_of before behind)
IsSubcommand before behind name (Log long format) = (name ≡ codes "log") × (long ≡ has_flag behind (codes "long")) × (format ≡ format_of before behind)
IsSubcommand before behind name (Diff range format) = (name ≡ codes "diff") × IsRange behind range × (format ≡ format_of before behind)
IsSubcommand before behind name (Check current format) = (name ≡ codes "check") × IsChecked before behind current × (format ≡ format_of before behind)
IsSubcommand before behind name (Outdated over format) = (name ≡ codes "outdated") × (index_of before behind ≡ Some over.now) × (format ≡ format_of before behind)
IsSubcommand before behind name (Export export) = (name ≡ codes "export") × IsExport before behind export
IsSubcommand before behind name (Skipped over) = (name ≡ codes "skipped") × (index_of before behind ≡ Some over.now)
IsSubcommand before behind name (Why question told) =
    (name ≡ codes "why") × IsQuestion before behind question × (told ≡ told_of behind)
