-- Entries that the changes before a place exchange.
use Rattle.std.proofs.Common.{◌≡◌, ◌++◌, ◌+◌, ◌≤◌, ◌<◌, ℕ, true, List, [], ◌∷◌, Some, None, length, take, drop, get_or, sym, ap, ◌∙◌, subst}
use Rattle.std.proofs.lemmas.List.{drop_more, take-append-drop, take_more}
use Rattle.std.specs.Option.{option_to_list}
use Rattle.pylock.specs.Locks.{are_entries}
use Rattle.pylock.specs.Packages.{EntryParts}
use Rattle.changes.specs.Changes.{AreEntryChanges, ChangesEntries}
use Rattle.changes.specs.Tied.ExchangedEntries.{IsCutAt}
use Rattle.changes.specs.Tied.Only.{IsTheOnly}
use Rattle.changes.specs.declared.change.parts.EntryChange.{EntryChange}
use Rattle.lists.proofs.Members.{take-whole}
use Rattle.changes.proofs.EntriesExchanged.{IsExchangedTo, IsExchangedTo-start, IsExchangedTo-next, IsExchangedTo-stops}
use Rattle.changes.proofs.ExchangesHaveOneOutcome.{ChangesEntries-one}

-- ---- as the loop has it

-- the changes before a place, the one there, and those behind it
cut-changes : (all : List EntryChange) (place : ℕ) (c : EntryChange) → place < length all → c ≡ get_or all place c → all ≡ take place all ++ c ∷ drop (place + 1) all
cut-changes all place c within is =
    let here : drop place all ≡ c ∷ drop (place + 1) all = drop_more all place c within ∙ ap (λ (d : EntryChange). d ∷ drop (place + 1) all) (sym is) in
    sym (take-append-drop place all) ∙ ap (λ (l : List EntryChange). take place all ++ l) here

-- the entries are exchanged by the changes before a place
abbrev pub IsExchangedAt : List EntryChange → ℕ → List EntryParts → List EntryParts → List EntryParts → Type 0
IsExchangedAt all place old rest after = IsExchangedTo (take place all) (drop place all) old rest after

pub IsExchangedAt-start : (all : List EntryChange) (old : List EntryParts) → are_entries old ≡ true → IsExchangedAt all 0 old old []
IsExchangedAt-start [] old rise = IsExchangedTo-start [] old rise
IsExchangedAt-start (c ∷ rest) old rise = IsExchangedTo-start (c ∷ rest) old rise

at-change : (all : List EntryChange) (place : ℕ) (c : EntryChange) (old rest after : List EntryParts) → place < length all → c ≡ get_or all place c → IsExchangedAt all place old rest after
    → IsExchangedTo (take place all) (c ∷ drop (place + 1) all) old rest after
at-change all place c old rest after within is left =
    subst (λ (l : List EntryChange). IsExchangedTo (take place all) l old rest after) (drop_more all place c within ∙ ap (λ (d : EntryChange). d ∷ drop (place + 1) all) (sym is)) left

pub IsExchangedAt-next : (all : List EntryChange) (place : ℕ) (c : EntryChange) (old rest after before at behind : List EntryParts) → AreEntryChanges all → place < length all → c ≡ get_or all place c
    → IsCutAt c.name rest before at behind → at ≡ option_to_list c.old → IsExchangedAt all place old rest after
    → IsExchangedAt all (place + 1) old behind (after ++ before ++ option_to_list c.new)
IsExchangedAt-next all place c old rest after before at behind are within is parts same left =
    let more : take (place + 1) all ≡ take place all ++ c ∷ [] = take_more all place c within ∙ ap (λ (d : EntryChange). take place all ++ d ∷ []) (sym is) in
    subst (λ (l : List EntryChange). IsExchangedTo l (drop (place + 1) all) old behind (after ++ before ++ option_to_list c.new)) (sym more)
    (IsExchangedTo-next (take place all) c (drop (place + 1) all) old rest after before at behind (subst AreEntryChanges (cut-changes all place c within is) are) parts same
    (at-change all place c old rest after within is left))

pub IsExchangedAt-stops : (all : List EntryChange) (place : ℕ) (c : EntryChange) (old rest after before at behind : List EntryParts) → AreEntryChanges all → place < length all → c ≡ get_or all place c
    → IsCutAt c.name rest before at behind → (at ≡ option_to_list c.old → ⊥) → IsExchangedAt all place old rest after → IsTheOnly (ChangesEntries all old) None
IsExchangedAt-stops all place c old rest after before at behind are within is parts differs left =
    let whole = cut-changes all place c within is in
    subst (λ (l : List EntryChange). IsTheOnly (ChangesEntries l old) None) (sym whole)
    (IsExchangedTo-stops (take place all) c (drop (place + 1) all) old rest after before at behind (subst AreEntryChanges whole are) parts differs (at-change all place c old rest after within is left))

-- no change is left
pub IsExchangedAt-done : (all : List EntryChange) (place : ℕ) (old rest after : List EntryParts) → length all ≤ place → IsExchangedAt all place old rest after
    → IsTheOnly (ChangesEntries all old) (Some (after ++ rest))
IsExchangedAt-done all place old rest after past left =
    let whole : ChangesEntries all old (after ++ rest) = subst (λ (l : List EntryChange). ChangesEntries l old (after ++ rest)) (take-whole all place past) left.so_far in
    (whole, λ other leads. ChangesEntries-one all old other (after ++ rest) leads whole)
