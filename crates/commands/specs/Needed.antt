-- Edits that are made only where they are needed. All of it is reqlock's own rule.
use Rattle.std.specs.Prelude.{◌≡◌, ◌⊎◌, ℕ, Bool, true, false, []}
use Rattle.changes.specs.Changes.{ChangeParts}
use Rattle.journal.specs.declared.commands.Reply.{Reply}
use Rattle.journal.specs.declared.commands.Reply.TheVariants.{Done, Same, Refused}
use Rattle.journal.specs.Changes.{IsStepOf}
use Rattle.journal.specs.Commands.{Asked, Editing, Undoing, Redoing}
use Rattle.journal.specs.Past.{Past}
use Rattle.journal.specs.Steps.{Step}

-- a change has no line, no target and no locked entry: at most the index is another
abbrev pub IsOfIndexAlone : ChangeParts → Type 0
IsOfIndexAlone change = (change.splices ≡ []) × (change.targets ≡ []) × (change.entries ≡ [])

-- step k of a history, from 1, changes the index alone; or it changes a line, a target or a locked entry
abbrev pub ChangesIndexAlone : Past → ℕ → Type 0
ChangesIndexAlone past k = (change : ChangeParts) × IsStepOf past k change × IsOfIndexAlone change

abbrev pub ChangesMore : Past → ℕ → Type 0
ChangesMore past k = (change : ChangeParts) × IsStepOf past k change × (¬ (IsOfIndexAlone change))

-- a command where edits are to be made only if they are needed: an edit is answered by `same` where it makes no step, or one that
-- changes the index alone, and by `ok` where its step changes more
abbrev pub StepIfNeeded : Past → Asked → Reply → Past → Type 0
StepIfNeeded old (Editing edit pool) (Done k) new = Step old (Editing edit pool) (Done k) new × ChangesMore new k
StepIfNeeded old (Editing edit pool) Same new = Step old (Editing edit pool) Same new ⊎ ((k : ℕ) × Step old (Editing edit pool) (Done k) new × ChangesIndexAlone new k)
StepIfNeeded old (Editing edit pool) (Refused refusal) new = Step old (Editing edit pool) (Refused refusal) new
StepIfNeeded old Undoing reply new = Step old Undoing reply new
StepIfNeeded old Redoing reply new = Step old Redoing reply new

-- one command, its reply, and the history before and after it. The history is to be saved where the reply is `ok`, and nowhere else
abbrev pub IsApplied : Bool → Past → Asked → Reply → Past → Type 0
IsApplied true old asked reply new = StepIfNeeded old asked reply new
IsApplied false old asked reply new = Step old asked reply new
