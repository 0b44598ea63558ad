-- The version in which a history is saved.
use Rattle.std.proofs.Common.{◌≡◌, ◌==◌, ◌∙◌, ◌+◌, ◌-◌, ◌<◌, ◌≤◌, ℕ, Bool, true, false, List, [], ◌∷◌, ◌++◌, Contains, Some, length, get_or, take, refl, sym, subst, inl, inr, arith}
use Rattle.std.proofs.lemmas.Bool.{and_from, and_parts, cases_Bool}
use Rattle.std.proofs.lemmas.Bool.Decides.{Decides-eqb}
use Rattle.std.proofs.lemmas.List.{nil_from_length, take_all, take_more}
use Rattle.std.proofs.lemmas.Option.{get_or_from_slice_get, slice_get_within}
use Rattle.std.specs.List.{AllByRecursion}
use Rattle.std.specs.Prelude.{slice_get}
use Rattle.lists.proofs.Members.{Contains-cons_cases, Contains-nil}
use Rattle.changes.specs.Changes.{ChangeParts}
use Rattle.journal_format.specs.declared.header.JournalVersion.TheVariants.{Three, Two}
use Rattle.journal_format.proofs.StepsBack.{HasTargets}
use Rattle.states.proofs.PartFacts.{All-of}
use Rattle.journal.specs.Saved.{stay_all, version_for}

-- a change has no targets
abbrev stays : ChangeParts → Bool
stays change = length change.targets == 0

all-append : (xs ys : List ChangeParts) → stay_all xs ≡ true → stay_all ys ≡ true → stay_all (xs ++ ys) ≡ true
all-append [] ys is more = more
all-append (x ∷ xs) ys is more =
    let parts = and_parts (stays x) (stay_all xs) is in
    and_from (stays x) (stay_all (xs ++ ys)) parts.0 (all-append xs ys parts.1 more)

at-place : (changes : List ChangeParts) (place : ℕ) (change : ChangeParts) → slice_get changes ((place + 1) - 1) ≡ Some change → slice_get changes place ≡ Some change
at-place changes place change at = let here : (place + 1) - 1 ≡ place = omega arith in rw here at at

-- one change more that has none
pub stays-more : (changes : List ChangeParts) (place : ℕ) (change : ChangeParts) → slice_get changes ((place + 1) - 1) ≡ Some change → true ≡ stays change → stay_all (take place changes) ≡ true
    → stay_all (take (place + 1) changes) ≡ true
stays-more changes place change at none before =
    let found = at-place changes place change at in
    let is : get_or changes place change ≡ change = get_or_from_slice_get changes place change change found in
    let within : place < length changes = slice_get_within changes place change found in
    rw (take_more changes place change within, is) (all-append (take place changes) (change ∷ []) before (and_from (stays change) true (sym none) refl))

pub stays-all : (changes : List ChangeParts) (place : ℕ) → length changes ≤ place → stay_all (take place changes) ≡ true → Two ≡ version_for changes
stays-all changes place past before = let all : stay_all changes ≡ true = rw (take_all place changes past) at before in rw all refl

stays-at : (changes : List ChangeParts) (change : ChangeParts) → stay_all changes ≡ true → Contains changes change → stays change ≡ true
stays-at [] change all there = absurd (Contains-nil change there)
stays-at (c ∷ cs) change all there =
    let parts = and_parts (stays c) (stay_all cs) all in
    elim (Contains-cons_cases c cs change there) [
      | inl same ↦ subst (λ (x : ChangeParts). stays x ≡ true) same parts.0
      | inr more ↦ stays-at cs change parts.1 more
    ]

-- a change that has some is written in version 3
pub moves-at : (changes : List ChangeParts) (place : ℕ) (change : ChangeParts) → slice_get changes ((place + 1) - 1) ≡ Some change → false ≡ stays change → Three ≡ version_for changes
moves-at changes place change at some =
    let found = at-place changes place change at in
    let is : get_or changes place change ≡ change = get_or_from_slice_get changes place change change found in
    elim (cases_Bool (stay_all changes)) [
      | inl all ↦ absurd (let stays_too = stays-at changes change all (place, slice_get_within changes place change found, is) in let no : true ≡ false = sym stays_too ∙ sym some in cc)
      | inr moves ↦ rw moves refl
    ]

-- each change has its targets in the version of all
pub has-targets : (changes : List ChangeParts) (change : ChangeParts) → Contains changes change → HasTargets (version_for changes) change.targets
has-targets changes change there = elim (cases_Bool (stay_all changes)) [
  | inl all ↦ rw all (nil_from_length change.targets ((Decides-eqb (length change.targets) 0).0 (stays-at changes change all there)))
  | inr moves ↦ rw moves tt
]

pub have-targets : (changes : List ChangeParts) → AllByRecursion (λ c. HasTargets (version_for changes) c.targets) changes
have-targets changes = All-of (λ (c : ChangeParts). HasTargets (version_for changes) c.targets) changes (has-targets changes)

-- where no step has targets, each change has none
pub all-stay : (changes : List ChangeParts) → stay_all changes ≡ true → AllByRecursion (λ c. c.targets ≡ []) changes
all-stay changes all = All-of (λ (c : ChangeParts). c.targets ≡ []) changes
    (λ c there. nil_from_length c.targets ((Decides-eqb (length c.targets) 0).0 (stays-at changes c all there)))
