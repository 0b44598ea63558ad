-- Lists in order are one where they have the same members, so the lock of a problem is one.
use Rattle.std.proofs.Common.{◌≡◌, ℕ, List, [], ◌∷◌, Contains, Option, Some, Less, Greater, map, map-id, refl, sym, ap, ◌∙◌, subst, inl, inr}
use Rattle.std.proofs.lemmas.Map.Lookups.{exact_bytes}
use Rattle.std.specs.Cmp.Lexicographic.{nat_list_cmp_total, slice_cmp}
use Rattle.std.specs.List.{AllByRecursion}
use Rattle.std.specs.List.Sorted.{IsStrictlySortedBy}
use Rattle.std.specs.Map.{keys_of}
use Rattle.std.specs.Ordering.{nat_cmp, ordering_reverse}
use Rattle.pep440.specs.Version.{VersionParts}
use Rattle.pylock.specs.Locks.{LockParts}
use Rattle.pylock.specs.Packages.{EntryParts}
use Rattle.problems.specs.Admission.{release_at}
use Rattle.problems.specs.Problem.{ProblemParts}
use Rattle.problems.specs.Rules.{rules_of}
use Rattle.problems.specs.Solutions.{version_for}
use Rattle.search.specs.Rules.{IsOrder}
use Rattle.search.specs.Solutions.{IsBest}
use Rattle.states.specs.Locks.{IsDependency, IsEntry, IsLockOf, python_text, sdist_of, versions_of, wheels_of}
use Rattle.states.proofs.EntriesByName.{Has-from}
use Rattle.states.proofs.GatheredNames.{lookup-there}
use Rattle.lists.proofs.Members.{Contains-cons_cases, Contains-here, Contains-map_of, Contains-nil, Contains-there}

-- what stands in a list that rises has its key there
below-member : {A : Type 0} (key : A → List ℕ) (x : A) (xs : List A) (y : A) → AllByRecursion (λ k. slice_cmp nat_cmp (key x) k ≡ Less) (map key xs) → Contains xs y
    → slice_cmp nat_cmp (key x) (key y) ≡ Less
below-member key x [] y below there = absurd (Contains-nil y there)
below-member key x (z ∷ xs) y below there = elim (Contains-cons_cases z xs y there) [
  | inl e ↦ subst (λ w. slice_cmp nat_cmp (key x) (key w) ≡ Less) e below.0
  | inr r ↦ below-member key x xs y below.1 r
]

not-both : (a b : List ℕ) → slice_cmp nat_cmp a b ≡ Less → slice_cmp nat_cmp b a ≡ Less → ⊥
not-both a b less more = let back : slice_cmp nat_cmp a b ≡ Greater = nat_list_cmp_total.antisymm a b ∙ ap ordering_reverse more in cc

-- the same members, in one direction
abbrev Has-all : {A : Type 0} → List A → List A → Type 0
Has-all {A} xs ys = (a : A) → Contains xs a → Contains ys a

first-one : {A : Type 0} (key : A → List ℕ) (x y : A) (xs ys : List A) → AllByRecursion (λ k. slice_cmp nat_cmp (key x) k ≡ Less) (map key xs)
    → AllByRecursion (λ k. slice_cmp nat_cmp (key y) k ≡ Less) (map key ys) → Has-all (x ∷ xs) (y ∷ ys) → Has-all (y ∷ ys) (x ∷ xs) → x ≡ y
first-one key x y xs ys above above_too there back = elim (Contains-cons_cases y ys x (there x (Contains-here x xs))) [
  | inl e ↦ sym e
  | inr r ↦ elim (Contains-cons_cases x xs y (back y (Contains-here y ys))) [
    | inl e ↦ e
    | inr q ↦ absurd (not-both (key x) (key y) (below-member key x xs y above q) (below-member key y ys x above_too r))
  ]
]

rest-there : {A : Type 0} (key : A → List ℕ) (x : A) (xs ys : List A) → AllByRecursion (λ k. slice_cmp nat_cmp (key x) k ≡ Less) (map key xs) → Has-all (x ∷ xs) (x ∷ ys) → Has-all xs ys
rest-there key x xs ys above there a h = elim (Contains-cons_cases x ys a (there a (Contains-there x xs a h))) [
  | inl e ↦ let less : slice_cmp nat_cmp (key x) (key x) ≡ Less = subst (λ w. slice_cmp nat_cmp (key x) (key w) ≡ Less) (sym e) (below-member key x xs a above h) in
      absurd (not-both (key x) (key x) less less)
  | inr r ↦ r
]

-- two lists whose keys rise are the same where each has the members of the other
members-one : {A : Type 0} (key : A → List ℕ) (xs ys : List A) → IsStrictlySortedBy (slice_cmp nat_cmp) (map key xs) → IsStrictlySortedBy (slice_cmp nat_cmp) (map key ys)
    → Has-all xs ys → Has-all ys xs → xs ≡ ys
unfolding IsStrictlySortedBy
members-one key [] [] s t there back = refl
members-one key [] (y ∷ ys) s t there back = absurd (Contains-nil y (back y (Contains-here y ys)))
members-one key (x ∷ xs) [] s t there back = absurd (Contains-nil x (there x (Contains-here x xs)))
members-one key (x ∷ xs) (y ∷ ys) s t there back =
    let e : x ≡ y = first-one key x y xs ys s.0 t.0 there back in
    let there_rest = rest-there key x xs ys s.0 (subst (λ w. Has-all (x ∷ xs) (w ∷ ys)) (sym e) there) in
    let back_rest = rest-there key y ys xs t.0 (subst (λ w. Has-all (y ∷ ys) (w ∷ xs)) e back) in
    let rest : xs ≡ ys = members-one key xs ys s.1 t.1 there_rest back_rest in
    ap (λ w. w ∷ xs) e ∙ ap (λ ws. y ∷ ws) rest

-- ---- locks

keys-are : (es : List EntryParts) → keys_of (versions_of es) ≡ map (λ e. e.name) es
keys-are [] = refl
keys-are (e ∷ es) = ap (λ rest. e.name ∷ rest) (keys-are es)

version-of : (es : List EntryParts) (e : EntryParts) → IsStrictlySortedBy (slice_cmp nat_cmp) (map (λ e. e.name) es) → Contains es e → version_for (versions_of es) e.name ≡ Some e.version
version-of es e rising there =
    lookup-there e.name e.version (versions_of es) (subst (IsStrictlySortedBy (slice_cmp nat_cmp)) (sym (keys-are es)) rising)
    (Contains-map_of (λ (e : EntryParts). (e.name, e.version)) es e there)

dependencies-one : (given : ProblemParts) (chosen : List ℕ → Option VersionParts) (e f : EntryParts) → e.name ≡ f.name → IsEntry given chosen e → IsEntry given chosen f → e.dependencies ≡ f.dependencies
dependencies-one given chosen e f named one another =
    members-one (λ name. name) e.dependencies f.dependencies
    (subst (IsStrictlySortedBy (slice_cmp nat_cmp)) (sym (map-id e.dependencies)) one.rising)
    (subst (IsStrictlySortedBy (slice_cmp nat_cmp)) (sym (map-id f.dependencies)) another.rising)
    (λ name there. (another.dependencies name).1 (subst (λ own. IsDependency given chosen own name) named ((one.dependencies name).0 there)))
    (λ name there. (one.dependencies name).1 (subst (λ own. IsDependency given chosen own name) (sym named) ((another.dependencies name).0 there)))

entry-one : (given : ProblemParts) (chosen : List ℕ → Option VersionParts) (e f : EntryParts) → e.name ≡ f.name → e.version ≡ f.version → IsEntry given chosen e → IsEntry given chosen f → e ≡ f
entry-one given chosen e f named versioned one another =
    let released : release_at given e.name e.version ≡ release_at given f.name f.version = λ i. release_at given (named i) (versioned i) in
    let python : e.requires_python ≡ f.requires_python = one.python ∙ ap python_text released ∙ sym another.python in
    let sdist : e.sdist ≡ f.sdist = one.sdist ∙ ap sdist_of released ∙ sym another.sdist in
    let wheels : e.wheels ≡ f.wheels = one.wheels ∙ ap wheels_of released ∙ sym another.wheels in
    let needs = dependencies-one given chosen e f named one another in
    λ i. record { name = named i; version = versioned i; requires_python = python i; dependencies = needs i; sdist = sdist i; wheels = wheels i }

entries-there : (given : ProblemParts) (one another : LockParts) → IsLockOf given one → IsLockOf given another → version_for (versions_of another.entries) ≡ version_for (versions_of one.entries)
    → Has-all one.entries another.entries
entries-there given one another l m same e there =
    let found = (λ i. same i e.name) ∙ version-of one.entries e l.rising there in
    let k = Has-from another.entries e.name e.version found in
    let mine = subst (λ chosen. IsEntry given chosen k.entry) same (m.entries k.entry k.there) in
    subst (Contains another.entries) (entry-one given (version_for (versions_of one.entries)) k.entry e k.named k.versioned mine (l.entries e there)) k.there

pub bytes-order : IsOrder (slice_cmp nat_cmp)
bytes-order = record { total = nat_list_cmp_total; exact = λ a b e. exact_bytes a b e }

pub lock-one : (given : ProblemParts) (one another : LockParts) → ((s t : List ℕ → Option VersionParts) → IsBest (rules_of given) s → IsBest (rules_of given) t → (n : List ℕ) → t n ≡ s n)
    → IsLockOf given one → IsLockOf given another → one ≡ another
lock-one given one another unique l m =
    let same : version_for (versions_of another.entries) ≡ version_for (versions_of one.entries) = λ i n. unique _ _ l.best m.best n i in
    let entries : one.entries ≡ another.entries =
    members-one (λ (e : EntryParts). e.name) one.entries another.entries l.rising m.rising (entries-there given one another l m same) (entries-there given another one m l (sym same)) in
    let environment : one.environment ≡ another.environment = l.environment ∙ sym m.environment in
    let snapshot : one.snapshot ≡ another.snapshot = l.snapshot ∙ sym m.snapshot in
    λ i. record { environment = environment i; snapshot = snapshot i; entries = entries i }
