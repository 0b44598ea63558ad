-- What `check` prints. All of it is reqlock's own rule.
use Rattle.std.specs.Prelude.{◌≡◌, Option, None, Some, false, ⊤}
use Rattle.std.specs.Borrow.{Bor}
use Rattle.changes.specs.Changes.{ChangeParts}
use Rattle.command_line.specs.declared.invocation.Format.{Format}
use Rattle.command_line.specs.declared.invocation.Format.TheVariants.{Json, Lines}
use Rattle.views.specs.Views.{moves}

-- this is so, unless JSON is asked for
abbrev pub IsIfLines : Format → Type 0 → Type 0
IsIfLines Lines A = A
IsIfLines Json A = ⊤

-- there is no such change, or none that moves lines or entries
abbrev pub IsUnmoved : Option (Bor ChangeParts) → Type 0
IsUnmoved None = ⊤
IsUnmoved (Some change) = moves change.now ≡ false
