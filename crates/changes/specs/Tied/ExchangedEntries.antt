-- Entries that changes lead to, as they are put together.
-- Tied to `ChangesEntries` by the contract of `Change::apply`; need not be read.
use Rattle.std.specs.Prelude.{◌≡◌, ◌++◌, ℕ, suc, List, [], ◌∷◌, drop, take, if◌then◌else◌}
use Rattle.std.specs.Cmp.Lexicographic.{slice_cmp}
use Rattle.std.specs.List.{AllByRecursion}
use Rattle.std.specs.Option.{option_to_list}
use Rattle.std.specs.Ordering.{is_lt, nat_cmp}
use Rattle.std.specs.Str.{bytes_eq}
use Rattle.std.specs.declared.cmp.Ordering.TheVariants.{Less}
use Rattle.pylock.specs.Packages.{EntryParts}
use Rattle.states.specs.State.{entry_on}
use Rattle.changes.specs.declared.change.parts.EntryChange.{EntryChange}

-- how many entries stand before the first whose name isn't below this one
abbrev pub count_below : List ℕ → List EntryParts → ℕ
count_below name [] = 0
count_below name (e ∷ rest) = if is_lt (slice_cmp nat_cmp e.name name) then suc (count_below name rest) else 0

-- how many entries on the name stand first, where no name is there twice
abbrev pub entries_on : List ℕ → List EntryParts → ℕ
entries_on name [] = 0
entries_on name (e ∷ rest) = if bytes_eq name e.name then 1 else 0

-- the entries that aren't below a name
abbrev pub from_name : List ℕ → List EntryParts → List EntryParts
from_name name entries = drop (count_below name entries) entries

-- the entries after the changes of some
abbrev pub carried_entries : List EntryChange → List EntryParts → List EntryParts
carried_entries [] entries = entries
carried_entries (change ∷ rest) entries =
    take (count_below change.name entries) entries ++ option_to_list change.new
    ++ carried_entries rest (drop (entries_on change.name (from_name change.name entries)) (from_name change.name entries))

-- the names of entries are below a name, or above it
abbrev pub AreBelow : List EntryParts → List ℕ → Type 0
AreBelow entries name = AllByRecursion (λ e. slice_cmp nat_cmp e.name name ≡ Less) entries

abbrev pub AreAbove : List ℕ → List EntryParts → Type 0
AreAbove name entries = AllByRecursion (λ e. slice_cmp nat_cmp name e.name ≡ Less) entries

-- entries are cut into those below a name, the one on it, if there is one, and those above it
pub record IsCutAt (name : List ℕ) (entries before at behind : List EntryParts) : Type 0 where
  pub whole : entries ≡ before ++ at ++ behind
  pub below : AreBelow before name
  pub there : at ≡ option_to_list (entry_on entries name)
  pub above : AreAbove name behind
