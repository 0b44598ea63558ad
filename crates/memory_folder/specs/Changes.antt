-- What a folder in memory holds after its changes, and what it has held. All of it is reqlock's own rule.
use Rattle.std.specs.Prelude.{◌≡◌, ◌≤◌, ℕ, List, None, Some, bytes_eq, if◌then◌else◌, length, take}
use Rattle.std.proofs.Common.{sym, ap, ◌∙◌, arith, take_all}
use Rattle.folder.specs.Held.{Held, cleared, in_turn, removed, renamed, staged}
use Rattle.memory_folder.specs.declared.changes.Change.{Change}
use Rattle.memory_folder.specs.declared.changes.Change.TheVariants.{Staged, Renamed, Removed, Cleared}
use Rattle.memory_folder.specs.declared.changes.Standing.{Standing}

abbrev pub change_done : Change → Held → Held
change_done (Staged name bytes) = staged name bytes
change_done (Renamed name) = renamed name
change_done (Removed name) = removed name
change_done (Cleared name) = cleared name

abbrev pub empty : Held
empty = record { placed = λ name. None; beside = λ name. None }

abbrev pub held_after : List Change → Held
held_after changes = in_turn change_done changes empty

-- what stands in the place of a name and beside it
abbrev pub at_name : List ℕ → Held → Standing
at_name name held = record { placed = held.placed name; beside = held.beside name }

-- the same after a change
abbrev pub changed_at : List ℕ → Change → Standing → Standing
changed_at name (Staged other bytes) old = if bytes_eq other name then record { placed = old.placed; beside = Some bytes } else old
changed_at name (Renamed other) old = if bytes_eq other name then record { placed = old.beside; beside = None } else old
changed_at name (Removed other) old = if bytes_eq other name then record { placed = None; beside = old.beside } else old
changed_at name (Cleared other) old = if bytes_eq other name then record { placed = old.placed; beside = None } else old

-- this was held after some number of the changes, t or more
abbrev pub HadBeen : List Change → ℕ → Held → Type 0
HadBeen changes t c = (k : ℕ) × (t ≤ k) × (k ≤ length changes) × (c ≡ held_after (take k changes))

pub had_been_now : (changes : List Change) (t : ℕ) (c : Held) → t ≤ length changes → c ≡ held_after changes → HadBeen changes t c
had_been_now changes t c le now = (length changes, le, omega arith, now ∙ ap held_after (sym (take_all (length changes) changes (omega arith))))

pub had_been_only : (changes : List Change) (c : Held) → HadBeen changes (length changes) c → c ≡ held_after changes
had_been_only changes c had = had.3 ∙ ap held_after (take_all had.0 changes had.1)
