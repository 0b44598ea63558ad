-- Changes of entries lead to one list of entries.
use Rattle.std.proofs.Common.{◌≡◌, ◌≢◌, ◌⊎◌, ℕ, true, List, [], ◌∷◌, Contains, map, refl, sym, ap, ◌∙◌, subst, inl, inr}
use Rattle.std.proofs.lemmas.Bool.{cases_Bool}
use Rattle.std.proofs.lemmas.Slice.Eq.{bytes_eq-Decides}
use Rattle.std.specs.Cmp.Lexicographic.{nat_list_cmp_total}
use Rattle.std.specs.Str.{bytes_eq}
use Rattle.pylock.specs.Locks.{are_entries}
use Rattle.pylock.specs.Packages.{EntryParts}
use Rattle.changes.specs.Changes.{ChangesEntries}
use Rattle.states.specs.State.{entry_on}
use Rattle.changes.specs.declared.change.parts.EntryChange.{EntryChange}
use Rattle.changes.proofs.CutFacts.{above-first, none-above, past-first}
use Rattle.states.proofs.EntryFacts.{entry-from, entry-there, not-below, rises-above, rises-rest}
use Rattle.states.proofs.LawfulNames.{apart}
use Rattle.lists.proofs.Members.{Contains-cons_cases, Contains-here, Contains-map_of, Contains-nil, Contains-there}

-- ---- one outcome

-- a change of the name, if there is one
pub change-on : (changes : List EntryChange) (name : List ℕ) → ((c : EntryChange) × Contains changes c × (c.name ≡ name)) ⊎ ((c : EntryChange) → Contains changes c → c.name ≢ name)
change-on [] name = inr (λ c there. absurd (Contains-nil c there))
change-on (x ∷ rest) name = elim (cases_Bool (bytes_eq x.name name)) [
  | inl same ↦ inl (x, Contains-here x rest, (bytes_eq-Decides x.name name).0 same)
  | inr other ↦ elim (change-on rest name) [
    | inl found ↦ inl (found.0, Contains-there x rest found.0 found.1, found.2)
    | inr none ↦ inr (λ c there. elim (Contains-cons_cases x rest c there) [
      | inl this ↦ λ same. apart x.name name other (sym (ap (λ (z : EntryChange). z.name) this ∙ same))
      | inr more ↦ none c more
    ])
  ]
]

-- changes give each name one entry
same-entry : (changes : List EntryChange) (old one another : List EntryParts) → ChangesEntries changes old one → ChangesEntries changes old another → (name : List ℕ)
    → entry_on one name ≡ entry_on another name
same-entry changes old one another is also name = elim (change-on changes name) [
  | inl found ↦
      let change = found.0 in
      subst (λ (n : List ℕ). entry_on one n ≡ entry_on another n) found.2 ((is.changed change found.1).1 ∙ sym (also.changed change found.1).1)
  | inr none ↦ is.others name none ∙ sym (also.others name none)
]

first-one : (x y : EntryParts) (xs ys : List EntryParts) → are_entries (x ∷ xs) ≡ true → are_entries (y ∷ ys) ≡ true → entry_on (x ∷ xs) x.name ≡ entry_on (y ∷ ys) x.name
    → entry_on (x ∷ xs) y.name ≡ entry_on (y ∷ ys) y.name → x ≡ y
first-one x y xs ys rise rise_too mine yours =
    let there = (entry-from (y ∷ ys) x.name x (sym mine ∙ entry-there (x ∷ xs) x rise (Contains-here x xs))).0 in
    let back = (entry-from (x ∷ xs) y.name y (yours ∙ entry-there (y ∷ ys) y rise_too (Contains-here y ys))).0 in
    elim (Contains-cons_cases y ys x there) [
      | inl same ↦ sym same
      | inr more ↦ elim (Contains-cons_cases x xs y back) [
        | inl same ↦ same
        | inr further ↦
            let one = rises-above y.name (map (λ p. p.name) ys) x.name rise_too (Contains-map_of (λ (p : EntryParts). p.name) ys x more) in
            let two = rises-above x.name (map (λ p. p.name) xs) y.name rise (Contains-map_of (λ (p : EntryParts). p.name) xs y further) in
            absurd (not-below x.name (nat_list_cmp_total.trans x.name y.name x.name two one))
      ]
    ]

rest-same : (x : EntryParts) (xs ys : List EntryParts) → are_entries (x ∷ xs) ≡ true → are_entries (x ∷ ys) ≡ true → ((name : List ℕ) → entry_on (x ∷ xs) name ≡ entry_on (x ∷ ys) name) → (name : List ℕ)
    → entry_on xs name ≡ entry_on ys name
rest-same x xs ys rise rise_too same name = elim (cases_Bool (bytes_eq name x.name)) [
  | inl on ↦
      let named : name ≡ x.name = (bytes_eq-Decides name x.name).0 on in
      subst (λ (n : List ℕ). entry_on xs n ≡ entry_on ys n) (sym named) (none-above x.name xs (above-first x xs rise) ∙ sym (none-above x.name ys (above-first x ys rise_too)))
  | inr other ↦
      let passed = apart name x.name other in
      sym (past-first x xs name passed) ∙ same name ∙ past-first x ys name passed
]

-- entries that rise are the same where each name has the same one
pub entries-one : (xs ys : List EntryParts) → are_entries xs ≡ true → are_entries ys ≡ true → ((name : List ℕ) → entry_on xs name ≡ entry_on ys name) → xs ≡ ys
entries-one [] [] rise rise_too same = refl
entries-one [] (y ∷ ys) rise rise_too same = absurd (cc (same y.name ∙ entry-there (y ∷ ys) y rise_too (Contains-here y ys)))
entries-one (x ∷ xs) [] rise rise_too same = absurd (cc (sym (same x.name) ∙ entry-there (x ∷ xs) x rise (Contains-here x xs)))
entries-one (x ∷ xs) (y ∷ ys) rise rise_too same =
    let first : x ≡ y = first-one x y xs ys rise rise_too (same x.name) (same y.name) in
    let rise_here : are_entries (x ∷ ys) ≡ true = subst (λ (z : EntryParts). are_entries (z ∷ ys) ≡ true) (sym first) rise_too in
    let same_here : (name : List ℕ) → entry_on (x ∷ xs) name ≡ entry_on (x ∷ ys) name =
    subst (λ (z : EntryParts). (name : List ℕ) → entry_on (x ∷ xs) name ≡ entry_on (z ∷ ys) name) (sym first) same in
    let rest : xs ≡ ys =
    entries-one xs ys (rises-rest x.name (map (λ p. p.name) xs) rise) (rises-rest y.name (map (λ p. p.name) ys) rise_too) (rest-same x xs ys rise rise_here same_here) in
    λ i. first i ∷ rest i

-- changes lead to one list of entries
pub ChangesEntries-one : (changes : List EntryChange) (old one another : List EntryParts) → ChangesEntries changes old one → ChangesEntries changes old another → one ≡ another
ChangesEntries-one changes old one another is also = entries-one one another is.new_rises also.new_rises (same-entry changes old one another is also)
