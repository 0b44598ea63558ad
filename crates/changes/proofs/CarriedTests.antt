-- What is tested of the state that a change makes of another one.
use Rattle.std.proofs.Common.{◌≡◌, ◌≢◌, ◌⊎◌, ◌∙◌, ◌+◌, ◌≤◌, ◌<◌, ℕ, true, List, [], ◌∷◌, ◌++◌, Contains, Some, Ok, not, nat_eq, length, get_or, take, refl, sym, ap, subst, inl, inr, arith}
use Rattle.std.proofs.lemmas.Bool.{cases_Bool}
use Rattle.std.proofs.lemmas.Bool.Decides.{nat_tests}
use Rattle.std.proofs.lemmas.List.{take_more}
use Rattle.std.proofs.lemmas.List.Elements.{Contains-append_cases}
use Rattle.std.specs.List.{AllByRecursion}
use Rattle.markers.specs.Environment.{Texts}
use Rattle.pep508.specs.Requirement.{RequirementParts, is_active, requirement_of}
use Rattle.problems.specs.Problem.{active_in, counted_in, requirements}
use Rattle.pylock.specs.Packages.{EntryParts}
use Rattle.states.specs.State.{IsMet}
use Rattle.states.specs.Tied.LockForLines.{IsLineMet}
use Rattle.changes.specs.Tied.CarriedOver.{IsAskedBy, IsChanged, IsChangedMet, KeepsName}
use Rattle.changes.specs.declared.change.parts.EntryChange.{EntryChange}
use Rattle.states.proofs.PartFacts.{All-member}
use Rattle.lists.proofs.Members.{Contains-cons_cases, Contains-flat_map_of, Contains-here, Contains-nil, take-whole}

-- ---- items so far

all-append : {X : Type 0} (P : X → Type 0) (xs ys : List X) → AllByRecursion P xs → AllByRecursion P ys → AllByRecursion P (xs ++ ys)
all-append P [] ys all more = more
all-append P (x ∷ xs) ys all more = (all.0, all-append P xs ys all.1 more)

pub all-more : {X : Type 0} (P : X → Type 0) (xs : List X) (place : ℕ) (x : X) → place < length xs → x ≡ get_or xs place x → AllByRecursion P (take place xs) → P x → AllByRecursion P (take (place + 1) xs)
all-more P xs place x within is all here =
    let one : take (place + 1) xs ≡ take place xs ++ x ∷ [] = take_more xs place x within ∙ ap (λ y. take place xs ++ y ∷ []) (sym is) in
    subst (AllByRecursion P) (sym one) (all-append P (take place xs) (x ∷ []) all (here, tt))

-- ---- changes on a name

more-cases : {X : Type 0} (xs : List X) (place : ℕ) (x w : X) → place < length xs → x ≡ get_or xs place x → Contains (take (place + 1) xs) w → Contains (take place xs) w ⊎ (x ≡ w)
more-cases xs place x w within is there =
    let one : take (place + 1) xs ≡ take place xs ++ x ∷ [] = take_more xs place x within ∙ ap (λ y. take place xs ++ y ∷ []) (sym is) in
    elim (Contains-append_cases (take place xs) (x ∷ []) w (subst (λ l. Contains l w) one there)) [
      | inl before ↦ inl before
      | inr last ↦ elim (Contains-cons_cases x [] w last) [ inl same ↦ inr same | inr none ↦ absurd (Contains-nil w none) ]
    ]

pub none-more : (changes : List EntryChange) (place : ℕ) (c : EntryChange) (name : List ℕ) → place < length changes → c ≡ get_or changes place c → c.name ≢ name
    → ((d : EntryChange) → Contains (take place changes) d → d.name ≢ name) → (d : EntryChange) → Contains (take (place + 1) changes) d → d.name ≢ name
none-more changes place c name within is other before d there same = elim (more-cases changes place c d within is there) [
  | inl earlier ↦ before d earlier same
  | inr this ↦ other (ap (λ (x : EntryChange). x.name) this ∙ same)
]

pub none-changed : (changes : List EntryChange) (place : ℕ) (name : List ℕ) → length changes ≤ place → ((d : EntryChange) → Contains (take place changes) d → d.name ≢ name) → IsChanged changes name → ⊥
none-changed changes place name past none k = none k.0 (subst (λ (l : List EntryChange). Contains l k.0) (sym (take-whole changes place past)) k.1) k.2

pub is-changed-at : (changes : List EntryChange) (place : ℕ) (c : EntryChange) (name : List ℕ) → place < length changes → c ≡ get_or changes place c → c.name ≡ name → IsChanged changes name
is-changed-at changes place c name within is named = (c, (place, within, sym is), named)

-- ---- what a line asks for

only-one : (environment : Texts) (wanted other : RequirementParts) → Contains (counted_in environment (Some wanted)) other → wanted ≡ other
only-one environment wanted other there = elim (cases_Bool (is_active wanted environment)) [
  | inl active ↦ elim (Contains-cons_cases wanted [] other (rw active at there)) [ inl same ↦ same | inr none ↦ absurd (Contains-nil other none) ]
  | inr inactive ↦ absurd (Contains-nil other (rw inactive at there))
]

pub asks-from : (environment : Texts) (line : List ℕ) (wanted : RequirementParts) (name : List ℕ) → requirement_of line ≡ Ok (Some wanted) → wanted.name ≡ name → is_active wanted environment ≡ true
    → IsAskedBy (active_in environment (requirement_of line)) name
asks-from environment line wanted name reads named active = rw (reads, active) (wanted, Contains-here wanted [], named)

pub asked-at : (environment : Texts) (lines : List (List ℕ)) (place : ℕ) (line name : List ℕ) → place < length lines → line ≡ get_or lines place line
    → IsAskedBy (active_in environment (requirement_of line)) name → IsAskedBy (requirements environment lines) name
asked-at environment lines place line name within is k =
    (k.0, Contains-flat_map_of (λ (l : List ℕ). active_in environment (requirement_of l)) lines line k.0 (place, within, sym is) k.1, k.2)

pub keeps-from : (environment : Texts) (lines : List (List ℕ)) (line : List ℕ) (wanted : RequirementParts) → requirement_of line ≡ Ok (Some wanted) → IsAskedBy (requirements environment lines) wanted.name
    → KeepsName environment lines line
keeps-from environment lines line wanted reads asked = λ other there.
    subst (λ (w : RequirementParts). IsAskedBy (requirements environment lines) w.name) (only-one environment wanted other (rw reads at there)) asked

pub changed-met : (environment : Texts) (entries : List EntryParts) (changes : List EntryChange) (line : List ℕ) → IsLineMet environment entries line → IsChangedMet environment entries changes line
changed-met environment entries changes line met = λ wanted there changed. All-member (IsMet environment entries) (active_in environment (requirement_of line)) wanted met there

pub empty-list : {X : Type 0} (xs : List X) → nat_eq (length xs) 0 ≡ true → xs ≡ []
empty-list [] is = refl
empty-list (x ∷ xs) is = let some : not (nat_eq (length (x ∷ xs)) 0) ≡ true = grind (arith, nat_tests) in cc

-- where nothing is changed nothing is left to be met
pub none-touched : (environment : Texts) (entries : List EntryParts) (changes : List EntryChange) (line : List ℕ) → changes ≡ [] → IsChangedMet environment entries changes line
none-touched environment entries changes line none = λ wanted there changed. absurd (Contains-nil changed.0 (subst (λ (l : List EntryChange). Contains l changed.0) none changed.1))
