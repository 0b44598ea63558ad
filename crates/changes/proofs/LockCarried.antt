-- What carries over from the lock of a target to the one that a change makes of it.
use Rattle.std.proofs.Common.{◌≡◌, ◌≢◌, ◌⊎◌, ◌∙◌, ℕ, true, List, [], ◌∷◌, Contains, Option, Some, None, option_map, refl, sym, ap, subst, inl, inr}
use Rattle.std.proofs.lemmas.Bool.{cases_Bool}
use Rattle.std.proofs.lemmas.Slice.Eq.{bytes_eq-Decides}
use Rattle.std.specs.List.{AllByRecursion}
use Rattle.std.specs.Str.{bytes_eq}
use Rattle.markers.specs.Environment.{Texts}
use Rattle.pep508.specs.Requirement.{RequirementParts, requirement_of}
use Rattle.problems.specs.Problem.{active_in, requirements}
use Rattle.pylock.specs.Locks.{IsLock, are_entries}
use Rattle.pylock.specs.Packages.{EntryParts}
use Rattle.states.specs.State.{IsAnEntry, IsLockFor, IsMet, Reached, by_entry, by_line, entry_on}
use Rattle.states.specs.Tied.LockForLines.{IsClosed, IsLineMet}
use Rattle.states.specs.declared.target.Target.{Target}
use Rattle.changes.specs.Changes.{ChangeParts, ChangesEntries, ChangesTarget, Splices, changes_on}
use Rattle.changes.specs.Tied.CarriedOver.{AreTouchedMet, IsAskedBy, IsChanged, IsChangedMet, IsReachedFrom, KeepNames, KeepsName, KeepsNeeds}
use Rattle.changes.specs.Tied.SplicedLines.{gone_by, put_by}
use Rattle.changes.specs.declared.change.parts.EntryChange.{EntryChange}
use Rattle.changes.specs.declared.change.parts.Splice.{Splice}
use Rattle.states.proofs.EntryFacts.{entry-from, entry-there}
use Rattle.states.proofs.LawfulNames.{apart}
use Rattle.states.proofs.PartFacts.{All-member, All-of}
use Rattle.lists.proofs.Members.{Contains-cons_cases, Contains-filter, Contains-flat_map, Contains-flat_map_of, Contains-here, Contains-nil, Contains-there}
use Rattle.changes.proofs.LinesCarried.{kept-or-gone, old-or-put}

-- what an entry needs, where there is one
abbrev needs : Option EntryParts → Option (List (List ℕ))
needs o = option_map (λ (e : EntryParts). e.dependencies) o

-- the entries of two lists are on the same names, and each needs what the other one of its name needs
abbrev NeedAlike : List EntryParts → List EntryParts → Type 0
NeedAlike old new = (name : List ℕ) → needs (entry_on new name) ≡ needs (entry_on old name)

-- a change is on the name, or none is
pub changed-or-not : (changes : List EntryChange) (name : List ℕ) → IsChanged changes name ⊎ ((change : EntryChange) → Contains changes change → change.name ≢ name)
changed-or-not [] name = inr (λ change there. absurd (Contains-nil change there))
changed-or-not (c ∷ rest) name = elim (cases_Bool (bytes_eq name c.name)) [
  | inl same ↦ inl (c, Contains-here c rest, sym ((bytes_eq-Decides name c.name).0 same))
  | inr other ↦ elim (changed-or-not rest name) [
    | inl k ↦ inl (k.0, Contains-there c rest k.0 k.1, k.2)
    | inr none ↦ inr (λ d there same. elim (Contains-cons_cases c rest d there) [
      | inl this ↦ apart name c.name other (ap (λ (x : EntryChange). x.name) this ∙ same)
      | inr more ↦ none d more same
    ])
  ]
]

-- changes that keep what each entry needs keep it of all
need-alike : (changes : List EntryChange) (old new : List EntryParts) → ChangesEntries changes old new → AllByRecursion KeepsNeeds changes → NeedAlike old new
need-alike changes old new is keep name = elim (changed-or-not changes name) [
  | inl k ↦
      let both = is.changed k.0 k.1 in
      let same : needs k.0.new ≡ needs k.0.old = All-member KeepsNeeds changes k.0 keep k.1 in
      ap (λ (n : List ℕ). needs (entry_on new n)) (sym k.2) ∙ ap needs both.1 ∙ same ∙ ap needs (sym both.0) ∙ ap (λ (n : List ℕ). needs (entry_on old n)) k.2
  | inr none ↦ ap needs (is.others name none)
]

needing : (o : Option EntryParts) (names : List (List ℕ)) → needs o ≡ Some names → (e : EntryParts) × (o ≡ Some e) × (e.dependencies ≡ names)
needing None names is = absurd (cc is)
needing (Some e) names is = (e, refl, cc is)

-- an entry's other one, on its name
other-one : (old new : List EntryParts) → are_entries old ≡ true → NeedAlike old new → (e : EntryParts) → Contains old e
    → (other : EntryParts) × Contains new other × (other.name ≡ e.name) × (other.dependencies ≡ e.dependencies)
other-one old new rise alike e there =
    let k = needing (entry_on new e.name) e.dependencies (alike e.name ∙ ap needs (entry-there old e rise there)) in
    let found = entry-from new e.name k.0 k.1 in
    (k.0, found.0, found.1, k.2)

-- ---- who is reached

module _ (active more : List RequirementParts) (old new : List EntryParts) (rise : are_entries old ≡ true) (alike : NeedAlike old new)
    (asked : (wanted : RequirementParts) → Contains active wanted → IsAskedBy more wanted.name) where
  reached-still : (name : List ℕ) → Reached active old name → Reached more new name
  reached-still _ (by_line wanted there) = let k = asked wanted there in subst (Reached more new) k.2 (by_line k.0 k.1)
  reached-still _ (by_entry e name there reached depends) =
      let k = other-one old new rise alike e there in
      by_entry k.0 name k.1 (subst (Reached more new) (sym k.2) (reached-still e.name reached)) (subst (λ (l : List (List ℕ)). Contains l name) (sym k.3) depends)

-- names that lines ask for are asked for still
asked-still : (environment : Texts) (splices : List Splice) (old new : List (List ℕ)) → Splices 0 splices old new → AllByRecursion (KeepsName environment new) (gone_by splices)
    → (wanted : RequirementParts) → Contains (requirements environment old) wanted → IsAskedBy (requirements environment new) wanted.name
asked-still environment splices old new at keep wanted there =
    let f = λ (line : List ℕ). active_in environment (requirement_of line) in
    let k = Contains-flat_map f old wanted there in
    elim (kept-or-gone 0 splices old new at k.0 k.1) [
      | inl kept ↦ (wanted, Contains-flat_map_of f new k.0 wanted kept k.2, refl)
      | inr gone ↦ All-member (KeepsName environment new) (gone_by splices) k.0 keep gone wanted k.2
    ]

-- ---- what is met

-- an entry on a name that isn't changed meets what it met
met-before : (environment : Texts) (changes : List EntryChange) (old new : List EntryParts) (wanted : RequirementParts) → ChangesEntries changes old new
    → ((change : EntryChange) → Contains changes change → change.name ≢ wanted.name) → IsMet environment old wanted → IsMet environment new wanted
met-before environment changes old new wanted is none met =
    let found : entry_on old wanted.name ≡ Some met.0 = ap (entry_on old) (sym met.2.named) ∙ entry-there old met.0 is.old_rises met.1 in
    let same : entry_on new wanted.name ≡ Some met.0 = is.others wanted.name none ∙ found in
    (met.0, (entry-from new wanted.name met.0 same).0, met.2)

met-still : (environment : Texts) (splices : List Splice) (changes : List EntryChange) (lines more : List (List ℕ)) (old new : List EntryParts) → Splices 0 splices lines more → ChangesEntries changes old new
    → ((wanted : RequirementParts) → Contains (requirements environment lines) wanted → IsMet environment old wanted)
    → AllByRecursion (IsLineMet environment new) (put_by splices) → AllByRecursion (IsChangedMet environment new changes) more
    → (wanted : RequirementParts) → Contains (requirements environment more) wanted → IsMet environment new wanted
met-still environment splices changes lines more old new at is before put_met changed_met wanted there =
    let f = λ (line : List ℕ). active_in environment (requirement_of line) in
    let k = Contains-flat_map f more wanted there in
    elim (old-or-put 0 splices lines more at k.0 k.1) [
      | inl kept ↦ elim (changed-or-not changes wanted.name) [
        | inl changed ↦ All-member (IsChangedMet environment new changes) more k.0 changed_met k.1 wanted k.2 changed
        | inr none ↦ met-before environment changes old new wanted is none (before wanted (Contains-flat_map_of f lines k.0 wanted kept k.2))
      ]
      | inr put ↦ All-member (IsMet environment new) (f k.0) wanted (All-member (IsLineMet environment new) (put_by splices) k.0 put_met put) k.2
    ]

-- ---- the lock

own-keep : (target : List ℕ) (changes : List EntryChange) → AllByRecursion KeepsNeeds changes → AllByRecursion KeepsNeeds (changes_on target changes)
own-keep target changes keep =
    All-of KeepsNeeds (changes_on target changes) (λ c there. All-member KeepsNeeds changes c keep (Contains-filter (λ (d : EntryChange). bytes_eq target d.target) changes c there).0)

module _ (change : ChangeParts) (lines more : List (List ℕ)) (t u : Target) (at : Splices 0 change.splices lines more) (is : ChangesTarget change t u) (lock : IsLockFor lines t.environment t.lock)
    (met : AreTouchedMet change.entries (put_by change.splices) more u) (lawful : IsLock u.lock) where
  -- the old lock, in the new one's environment
  before : IsLockFor lines u.environment t.lock
  before = subst (λ (e : Texts). IsLockFor lines e t.lock) (sym is.same.environment) lock

  entries : ChangesEntries (changes_on t.name change.entries) t.lock.entries u.lock.entries
  entries = is.lock.entries

  all-still : (wanted : RequirementParts) → Contains (requirements u.environment more) wanted → IsMet u.environment u.lock.entries wanted
  all-still =
      let own = changes_on t.name change.entries in
      let changed : AllByRecursion (IsChangedMet u.environment u.lock.entries own) more =
      subst (λ (n : List ℕ). AllByRecursion (IsChangedMet u.environment u.lock.entries (changes_on n change.entries)) more) is.same.name met.changed in
      met-still u.environment change.splices own lines more t.lock.entries u.lock.entries at entries before.met met.put_in changed

  -- where it was tested who is reached
  pub lock-reached : IsReachedFrom more u → IsLockFor more u.environment u.lock
  lock-reached found = record {
    lawful = lawful;
    met = all-still;
    closed = λ e name there depends. All-member (IsAnEntry u.lock.entries) e.dependencies name (All-member (IsClosed u.lock.entries) u.lock.entries e found.closed there) depends;
    reached = λ e there. All-member (λ (x : EntryParts). Reached (requirements u.environment more) u.lock.entries x.name) u.lock.entries e found.reached there;
    named = is.lock.environment ∙ before.named;
  }

  -- where what each entry needs and the names of lines stay
  pub lock-carried : AllByRecursion KeepsNeeds change.entries → KeepNames more (gone_by change.splices) u → IsLockFor more u.environment u.lock
  lock-carried keep names =
      let own = changes_on t.name change.entries in
      let alike : NeedAlike t.lock.entries u.lock.entries = need-alike own t.lock.entries u.lock.entries entries (own-keep t.name change.entries keep) in
      let back : NeedAlike u.lock.entries t.lock.entries = λ name. sym (alike name) in
      let asked = asked-still u.environment change.splices lines more at names in
      record {
        lawful = lawful;
        met = all-still;
        closed = λ e name there depends.
            let k = other-one u.lock.entries t.lock.entries entries.new_rises back e there in
            let needed : IsAnEntry t.lock.entries name = before.closed k.0 name k.1 (subst (λ (l : List (List ℕ)). Contains l name) (sym k.3) depends) in
            let found = other-one t.lock.entries u.lock.entries entries.old_rises alike needed.entry needed.there in
            record { entry = found.0; there = found.1; named = found.2 ∙ needed.named };
        reached = λ e there.
            let k = other-one u.lock.entries t.lock.entries entries.new_rises back e there in
            subst (Reached (requirements u.environment more) u.lock.entries) k.2
            (reached-still (requirements u.environment lines) (requirements u.environment more) t.lock.entries u.lock.entries entries.old_rises alike asked k.0.name (before.reached k.0 k.1));
        named = is.lock.environment ∙ before.named;
      }
