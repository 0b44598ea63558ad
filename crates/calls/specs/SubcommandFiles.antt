-- The files that a subcommand reads. All of it is reqlock's own rule.
use Rattle.std.specs.Prelude.{◌≡◌, ℕ, Bool, true, false, List, [], Option, None, Some}
use Rattle.std.specs.Borrow.{Bor}
use Rattle.stops.specs.declared.stop.Stop.{Stop}
use Rattle.stops.specs.declared.stop.Stop.TheVariants as stops
use Rattle.command_line.specs.declared.invocation.AskedEdit.TheVariants as edits
use Rattle.command_line.specs.declared.invocation.NewLines.{NewLines}
use Rattle.command_line.specs.declared.invocation.NewLines.TheVariants as lines
use Rattle.command_line.specs.declared.invocation.Question.TheVariants as questions
use Rattle.command_line.specs.declared.invocation.Shown.TheVariants as shown
use Rattle.command_line.specs.declared.invocation.Subcommand.{Subcommand}
use Rattle.command_line.specs.declared.invocation.Subcommand.TheVariants as subcommands
use Rattle.inputs.specs.declared.input_files.InputFault.TheVariants as faults
use Rattle.inputs.specs.declared.input_files.InputFile.TheVariants as files
use Rattle.inputs.specs.declared.unread.Unread.TheVariants.{NoFolder}

-- the index of a subcommand, where it is given one
abbrev pub index_of : Subcommand → Option (Bor (List ℕ))
index_of (subcommands.Init options saving) = Some options.index
index_of (subcommands.Edit edit options saving) = Some options.index
index_of (subcommands.Batch options all) = Some options.index
index_of (subcommands.Try options) = Some options.index
index_of (subcommands.Show (shown.Entry name index) format) = index
index_of (subcommands.Check index format) = index
index_of (subcommands.Outdated index format) = Some index
index_of (subcommands.Export export) = export.index
index_of (subcommands.Skipped index) = Some index
index_of (subcommands.Why (questions.Init options line) told) = Some options.index
index_of (subcommands.Why (questions.Edit edit options) told) = Some options.index
index_of (subcommands.Why (questions.Release release index) told) = Some index
index_of other = None

-- the values of `--env` of a subcommand that locks new targets; none of any other
abbrev pub environments_of : Subcommand → List (List ℕ)
environments_of (subcommands.Init options saving) = options.environments
environments_of (subcommands.Try options) = options.environments
environments_of (subcommands.Why (questions.Init options line) told) = options.environments
environments_of (subcommands.Edit (edits.Retarget targets) options saving) = targets.environments
environments_of (subcommands.Why (questions.Edit (edits.Retarget targets) options) told) = targets.environments
environments_of other = []

-- where the new lines of a replacement are
abbrev pub new_lines_of : Subcommand → Option NewLines
new_lines_of (subcommands.Edit (edits.Replace replacement) options saving) = Some replacement.lines
new_lines_of (subcommands.Why (questions.Edit (edits.Replace replacement) options) told) = Some replacement.lines
new_lines_of other = None

-- the requirements file that is handed in for them: the new one, or the old one
abbrev pub file_of : Option NewLines → Option (Bor (List ℕ))
file_of (Some (lines.File path)) = Some path
file_of (Some (lines.Was path)) = Some path
file_of other = None

-- whether that is the old one
abbrev pub is_old : Option NewLines → Bool
is_old (Some (lines.Was path)) = true
is_old other = false

-- a subcommand that reads no file of the folder
abbrev pub reads_no_folder : Subcommand → Bool
reads_no_folder (subcommands.Skipped index) = true
reads_no_folder other = false

-- no folder has the empty name: a call stops as its requirements file can't be read
abbrev pub StopsForNoFolder : List ℕ → Subcommand → Stop → Type 0
StopsForNoFolder dir subcommand stop =
    (dir ≡ []) × (reads_no_folder subcommand ≡ false) × (stop ≡ stops.Input files.Requirements (faults.Unreadable NoFolder))
