-- What commands do to a history and to the changes of its steps. All of it is reqlock's own rule.
use Rattle.std.specs.Prelude.{◌≡◌, ◌≤◌, List, [], ◌∷◌, length}
use Rattle.changes.specs.Changes.{ChangeParts}
use Rattle.journal.specs.declared.commands.Reply.{Reply}
use Rattle.journal.specs.declared.commands.Reply.TheVariants.{Done}
use Rattle.journal.specs.Changes.{HistoryParts, IsStepOf, with_change}
use Rattle.journal.specs.Commands.{Asked, Editing}
use Rattle.journal.specs.Steps.{Step}

-- the changes before and after a command. An accepted edit cuts those behind the cursor and puts its own there, with one splice at
-- most; nothing else touches them
abbrev pub ChangesAfter : HistoryParts → Asked → Reply → HistoryParts → Type 0
ChangesAfter old (Editing edit pool) (Done k) new =
    (change : ChangeParts) × IsStepOf new.past k change × (length change.splices ≤ 1) × (new.changes ≡ with_change old.past.cursor old.changes change)
ChangesAfter old asked reply new = new.changes ≡ old.changes

-- a run, with what each of its steps does to the changes
abbrev pub RunWithChanges : HistoryParts → List Asked → List Reply → HistoryParts → Type 0
RunWithChanges old [] [] new = new ≡ old
RunWithChanges old (asked ∷ more) (reply ∷ replies) new =
    (next : HistoryParts) × Step old.past asked reply next.past × ChangesAfter old asked reply next × RunWithChanges next more replies new
RunWithChanges old [] (reply ∷ replies) new = ⊥
RunWithChanges old (asked ∷ more) [] new = ⊥
