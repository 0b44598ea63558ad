-- Where changes of entries lead, as a function.
use Rattle.std.proofs.Common.{◌≡◌, ◌++◌, List, [], ◌∷◌, take, drop, sym, subst, append_assoc}
use Rattle.std.proofs.lemmas.List.{append-nil}
use Rattle.std.specs.Option.{option_to_list}
use Rattle.pylock.specs.Packages.{EntryParts}
use Rattle.changes.specs.Changes.{AreEntryChanges, ChangesEntries}
use Rattle.changes.specs.Tied.ExchangedEntries.{carried_entries, count_below, entries_on, from_name}
use Rattle.changes.specs.declared.change.parts.EntryChange.{EntryChange}
use Rattle.changes.proofs.CutFacts.{cut}
use Rattle.changes.proofs.EntriesExchanged.{IsExchangedTo, IsExchangedTo-next, IsExchangedTo-start, IsExchangedTo-stood, joined, rises-left}
use Rattle.changes.proofs.ExchangesHaveOneOutcome.{ChangesEntries-one}

-- the changes that are left lead on as the function has it
entries-onward : (done left : List EntryChange) (old rest after new : List EntryParts) → AreEntryChanges (done ++ left) → IsExchangedTo done left old rest after → ChangesEntries (done ++ left) old new
    → ChangesEntries (done ++ left) old (after ++ carried_entries left rest)
entries-onward done [] old rest after new are is leads = subst (λ (l : List EntryChange). ChangesEntries l old (after ++ rest)) (sym (append-nil done)) is.so_far
entries-onward done (c ∷ left) old rest after new are is leads =
    let before = take (count_below c.name rest) rest in
    let at = take (entries_on c.name (from_name c.name rest)) (from_name c.name rest) in
    let behind = drop (entries_on c.name (from_name c.name rest)) (from_name c.name rest) in
    let parts = cut c.name rest (rises-left after rest is.so_far.new_rises) in
    let stood = IsExchangedTo-stood done c left old rest after before at behind new are parts is leads in
    let next = IsExchangedTo-next done c left old rest after before at behind are parts stood is in
    let whole : (done ++ c ∷ []) ++ left ≡ done ++ c ∷ left = append_assoc done (c ∷ []) left in
    let onward = entries-onward (done ++ c ∷ []) left old behind (after ++ before ++ option_to_list c.new) new
    (subst AreEntryChanges (sym whole) are) next (subst (λ (l : List EntryChange). ChangesEntries l old new) (sym whole) leads) in
    let there = sym (joined after before (option_to_list c.new) (carried_entries left behind)) in
    subst (λ (l : List EntryChange). ChangesEntries l old (after ++ carried_entries (c ∷ left) rest)) whole
    (subst (ChangesEntries ((done ++ c ∷ []) ++ left) old) there onward)

pub entries-carried : (changes : List EntryChange) (old new : List EntryParts) → AreEntryChanges changes → ChangesEntries changes old new → new ≡ carried_entries changes old
entries-carried changes old new are is =
    ChangesEntries-one changes old new (carried_entries changes old) is (entries-onward [] changes old old [] new are (IsExchangedTo-start changes old is.old_rises) is)
