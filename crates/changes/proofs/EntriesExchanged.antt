-- Entries that changes exchange, one after the other.
use Rattle.std.proofs.Common.{◌≡◌, ◌≢◌, ◌++◌, ℕ, true, List, [], ◌∷◌, Contains, Option, Some, None, Less, MatchOption, map, refl, sym, ap, ◌∙◌, subst, inl, inr, append_assoc}
use Rattle.std.proofs.lemmas.List.Elements.{Contains-append_cases, Contains-append_left, Contains-append_right}
use Rattle.std.specs.Cmp.Lexicographic.{nat_list_cmp_total, slice_cmp}
use Rattle.std.specs.List.{AllByRecursion}
use Rattle.std.specs.Option.{option_to_list}
use Rattle.std.specs.Ordering.{nat_cmp}
use Rattle.pylock.specs.Locks.{are_entries}
use Rattle.pylock.specs.Order.{rises}
use Rattle.pylock.specs.Packages.{EntryParts}
use Rattle.changes.specs.Changes.{AreEntryChanges, ChangesEntries, IsEntryChange, IsOn}
use Rattle.states.specs.State.{entry_on}
use Rattle.changes.specs.Tied.ExchangedEntries.{AreAbove, AreBelow, IsCutAt}
use Rattle.changes.specs.Tied.Only.{IsTheOnly}
use Rattle.changes.specs.declared.change.parts.EntryChange.{EntryChange}
use Rattle.changes.proofs.CutFacts.{below-other}
use Rattle.states.proofs.PartFacts.{All-member, All-of}
use Rattle.states.proofs.EntryFacts.{rises-above, rises-rest}
use Rattle.lists.proofs.Members.{Contains-cons_cases, Contains-here, Contains-map_of, Contains-nil}
use Rattle.changes.proofs.EntryInPlaceOfAnother.{past-below, own, others-stay, still-rise}

-- ---- one change more

-- one entry in place of another, on a name that isn't changed yet
one-more : (done : List EntryChange) (c : EntryChange) (old front rest : List EntryParts) → ((d : EntryChange) → Contains done d → d.name ≢ c.name) → IsOn c.name c.old → IsOn c.name c.new
    → AreBelow front c.name → AreAbove c.name rest → ChangesEntries done old (front ++ option_to_list c.old ++ rest) → ChangesEntries (done ++ c ∷ []) old (front ++ option_to_list c.new ++ rest)
one-more done c old front rest distinct on_old on_new below above is = record {
  changed = λ d there. elim (Contains-append_cases done (c ∷ []) d there) [
    | inl before ↦
        let k = is.changed d before in
        (k.0, others-stay front c.old c.new rest c.name d.name on_old on_new (λ same. distinct d before (sym same)) ∙ k.1)
    | inr last ↦ elim (Contains-cons_cases c [] d last) [
      | inl same ↦
          let first : entry_on old c.name ≡ c.old = sym (is.others c.name distinct) ∙ own front c.old rest c.name on_old below above in
          subst (λ (d : EntryChange). (entry_on old d.name ≡ d.old) × (entry_on (front ++ option_to_list c.new ++ rest) d.name ≡ d.new)) same (first, own front c.new rest c.name on_new below above)
      | inr none ↦ absurd (Contains-nil d none)
    ]
  ];
  others = λ name none.
      others-stay front c.old c.new rest c.name name on_old on_new (none c (Contains-append_right done (c ∷ []) c (Contains-here c [])))
      ∙ is.others name (λ d there. none d (Contains-append_left done (c ∷ []) d there));
  old_rises = is.old_rises;
  new_rises = still-rise front c.old c.new rest c.name on_new below above is.new_rises;
}

-- entries as far as they are exchanged: what was put together goes on with entries that are left, and is below the changes that
-- are left
pub record IsExchangedTo (done left : List EntryChange) (old rest after : List EntryParts) : Type 0 where
  pub so_far : ChangesEntries done old (after ++ rest)
  pub below : (e : EntryParts) (c : EntryChange) → Contains after e → Contains left c → slice_cmp nat_cmp e.name c.name ≡ Less

-- what is left rises
pub rises-left : (after rest : List EntryParts) → are_entries (after ++ rest) ≡ true → are_entries rest ≡ true
rises-left [] rest rise = rise
rises-left (e ∷ after) rest rise = rises-left after rest (rises-rest e.name (map (λ p. p.name) (after ++ rest)) rise)

-- the slice of an entry that may be there
pub slice-of : (x : Option EntryParts) (slice : List EntryParts) → MatchOption x (slice ≡ []) (λ e. slice ≡ e ∷ []) → slice ≡ option_to_list x
slice-of None slice is = is
slice-of (Some e) slice is = is

-- before the first change
pub IsExchangedTo-start : (left : List EntryChange) (old : List EntryParts) → are_entries old ≡ true → IsExchangedTo [] left old old []
IsExchangedTo-start left old rise = record {
  so_far = record {
    changed = λ change there. absurd (Contains-nil change there);
    others = λ name none. refl;
    old_rises = rise;
    new_rises = rise;
  };
  below = λ e c there _. absurd (Contains-nil e there);
}

below-at : (entries : List EntryParts) (name : List ℕ) → ((e : EntryParts) → Contains entries e → slice_cmp nat_cmp e.name name ≡ Less) → AreBelow entries name
below-at entries name each = All-of (λ (e : EntryParts). slice_cmp nat_cmp e.name name ≡ Less) entries each

both-below : (xs ys : List EntryParts) (name : List ℕ) → AreBelow xs name → AreBelow ys name → AreBelow (xs ++ ys) name
both-below [] ys name below more = more
both-below (x ∷ xs) ys name below more = (below.0, both-below xs ys name below.1 more)

-- names of changes rise, so those before one are below it, and those behind it above
before-below : (done : List EntryChange) (c : EntryChange) (left : List EntryChange) → rises (map (λ change. change.name) (done ++ c ∷ left)) ≡ true → (d : EntryChange) → Contains done d
    → slice_cmp nat_cmp d.name c.name ≡ Less
before-below [] c left rise d there = absurd (Contains-nil d there)
before-below (x ∷ done) c left rise d there = elim (Contains-cons_cases x done d there) [
  | inl same ↦ subst (λ (z : EntryChange). slice_cmp nat_cmp z.name c.name ≡ Less) same
      (rises-above x.name (map (λ change. change.name) (done ++ c ∷ left)) c.name rise
      (Contains-map_of (λ (change : EntryChange). change.name) (done ++ c ∷ left) c (Contains-append_right done (c ∷ left) c (Contains-here c left))))
  | inr more ↦ before-below done c left (rises-rest x.name (map (λ change. change.name) (done ++ c ∷ left)) rise) d more
]

behind-above : (done : List EntryChange) (c : EntryChange) (left : List EntryChange) → rises (map (λ change. change.name) (done ++ c ∷ left)) ≡ true → (d : EntryChange) → Contains left d
    → slice_cmp nat_cmp c.name d.name ≡ Less
behind-above [] c left rise d there = rises-above c.name (map (λ change. change.name) left) d.name rise (Contains-map_of (λ (change : EntryChange). change.name) left d there)
behind-above (x ∷ done) c left rise d there = behind-above done c left (rises-rest x.name (map (λ change. change.name) (done ++ c ∷ left)) rise) d there

-- an entry that is put on a name is below what is above the name
new-below : (x : Option EntryParts) (name other : List ℕ) (e : EntryParts) → IsOn name x → slice_cmp nat_cmp name other ≡ Less → Contains (option_to_list x) e → slice_cmp nat_cmp e.name other ≡ Less
new-below None name other e on less there = absurd (Contains-nil e there)
new-below (Some f) name other e on less there = elim (Contains-cons_cases f [] e there) [
  | inl same ↦ subst (λ (n : List ℕ). slice_cmp nat_cmp n other ≡ Less) (sym on ∙ ap (λ (z : EntryParts). z.name) same) less
  | inr none ↦ absurd (Contains-nil e none)
]

each-change : (done : List EntryChange) (c : EntryChange) (left : List EntryChange) → AllByRecursion IsEntryChange (done ++ c ∷ left) → IsEntryChange c
each-change [] c left all = all.0
each-change (x ∷ done) c left all = each-change done c left all.1

pub joined : (after before at behind : List EntryParts) → after ++ (before ++ at ++ behind) ≡ after ++ before ++ at ++ behind
joined after before at behind =
    sym (append_assoc after (before ++ at) behind) ∙ ap (λ (l : List EntryParts). l ++ behind) (sym (append_assoc after before at))

-- one change more, where its old entry stands there
pub IsExchangedTo-next : (done : List EntryChange) (c : EntryChange) (left : List EntryChange) (old rest after before at behind : List EntryParts) → AreEntryChanges (done ++ c ∷ left)
    → IsCutAt c.name rest before at behind → at ≡ option_to_list c.old → IsExchangedTo done (c ∷ left) old rest after
    → IsExchangedTo (done ++ c ∷ []) left old behind (after ++ before ++ option_to_list c.new)
IsExchangedTo-next done c left old rest after before at behind are parts same is =
    let change = each-change done c left are.each in
    let whole : after ++ rest ≡ after ++ before ++ option_to_list c.old ++ behind =
    ap (λ (l : List EntryParts). after ++ l) (parts.whole ∙ ap (λ (l : List EntryParts). before ++ l ++ behind) same) ∙ joined after before (option_to_list c.old) behind in
    let below : AreBelow after c.name = below-at after c.name (λ e there. is.below e c there (Contains-here c left)) in
    record {
      so_far = one-more done c old (after ++ before) behind (λ d there. below-other d.name c.name (before-below done c left are.names d there)) change.old_name change.new_name
          (both-below after before c.name below parts.below) parts.above (subst (ChangesEntries done old) whole is.so_far);
      below = λ e d there later.
          let above = behind-above done c left are.names d later in
          elim (Contains-append_cases (after ++ before) (option_to_list c.new) e there) [
            | inl front ↦ nat_list_cmp_total.trans e.name c.name d.name (All-member (λ (x : EntryParts). slice_cmp nat_cmp x.name c.name ≡ Less) (after ++ before) e (both-below after before c.name below parts.below) front) above
            | inr new ↦ new-below c.new c.name d.name e change.new_name above new
          ];
    }

-- where the changes lead somewhere, the old entry of the next one stands there
pub IsExchangedTo-stood : (done : List EntryChange) (c : EntryChange) (left : List EntryChange) (old rest after before at behind new : List EntryParts) → AreEntryChanges (done ++ c ∷ left)
    → IsCutAt c.name rest before at behind → IsExchangedTo done (c ∷ left) old rest after → ChangesEntries (done ++ c ∷ left) old new → at ≡ option_to_list c.old
IsExchangedTo-stood done c left old rest after before at behind new are parts is leads =
    let below : AreBelow after c.name = below-at after c.name (λ e there. is.below e c there (Contains-here c left)) in
    let here : entry_on rest c.name ≡ entry_on old c.name =
    sym (past-below after rest c.name below) ∙ is.so_far.others c.name (λ d there. below-other d.name c.name (before-below done c left are.names d there)) in
    let stood : entry_on old c.name ≡ c.old = (leads.changed c (Contains-append_right done (c ∷ left) c (Contains-here c left))).0 in
    parts.there ∙ ap option_to_list (here ∙ stood)

-- a change whose old entry doesn't stand there
pub IsExchangedTo-stops : (done : List EntryChange) (c : EntryChange) (left : List EntryChange) (old rest after before at behind : List EntryParts) → AreEntryChanges (done ++ c ∷ left)
    → IsCutAt c.name rest before at behind → (at ≡ option_to_list c.old → ⊥) → IsExchangedTo done (c ∷ left) old rest after
    → IsTheOnly (ChangesEntries (done ++ c ∷ left) old) None
IsExchangedTo-stops done c left old rest after before at behind are parts differs is = λ new leads.
    differs (IsExchangedTo-stood done c left old rest after before at behind new are parts is leads)
