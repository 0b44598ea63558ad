-- What `diff` compares. All of it is reqlock's own rule.
use Rattle.std.specs.Prelude.{ℕ, ⊤}
use Rattle.changes.specs.Changes.{ChangeParts}
use Rattle.files.specs.declared.held.Held.{Held}
use Rattle.files.specs.declared.held.Held.TheVariants.{Changed, History}
use Rattle.journal.specs.Places.{IsBetween}

-- a change is the difference of two places of the history; nothing is said of it where the requirements file was changed by hand
abbrev pub IsChangeIn : Held → ℕ × ℕ → ChangeParts → Type 0
IsChangeIn (History history) places change = IsBetween history.past places.0 places.1 change
IsChangeIn (Changed told lines) places change = ⊤
