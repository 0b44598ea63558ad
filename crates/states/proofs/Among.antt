-- Whether a name is among others, as it is tested.
use Rattle.std.proofs.Common.{◌≡◌, ◌++◌, ◌∙◌, ℕ, Bool, true, List, [], ◌∷◌, Contains, refl, sym, ap, subst, inl, inr}
use Rattle.std.proofs.lemmas.Bool.{cases_Bool}
use Rattle.std.proofs.lemmas.Slice.Eq.{bytes_eq-Decides}
use Rattle.std.proofs.lemmas.Map.Text.{is_eq-slice_cmp}
use Rattle.std.specs.BTreeMap.{is_at}
use Rattle.std.specs.BTreeSet.{BTreeSet, contains_by, insert_key}
use Rattle.std.specs.Cmp.Lexicographic.{slice_cmp}
use Rattle.std.specs.List.{list_any}
use Rattle.std.specs.Ordering.{nat_cmp}
use Rattle.std.specs.Str.{bytes_eq}
use Rattle.states.specs.Names.{with_names}
use Rattle.states.proofs.NamesInOrder.{from-names, put-names}
use Rattle.lists.proofs.Members.{Contains-cons_cases, Contains-here, Contains-nil, Contains-there}

pub among-from : (names : List (List ℕ)) (name : List ℕ) → list_any (bytes_eq name) names ≡ true → Contains names name
among-from [] name is = absurd (cc is)
among-from (n ∷ rest) name is = elim (cases_Bool (bytes_eq name n)) [
  | inl same ↦ subst (λ (m : List ℕ). Contains (n ∷ rest) m) (sym ((bytes_eq-Decides name n).0 same)) (Contains-here n rest)
  | inr other ↦ Contains-there n rest name (among-from rest name (rw other at is))
]

pub among-of : (names : List (List ℕ)) (name : List ℕ) → Contains names name → list_any (bytes_eq name) names ≡ true
among-of [] name there = absurd (Contains-nil name there)
among-of (n ∷ rest) name there = elim (cases_Bool (bytes_eq name n)) [
  | inl same ↦ rw same refl
  | inr other ↦ elim (Contains-cons_cases n rest name there) [
    | inl this ↦ rw ((bytes_eq-Decides name n).1 (sym this)) refl
    | inr more ↦ rw other (among-of rest name more)
  ]
]

-- ---- in a set

-- a set has a key just where one of its keys has the same bytes
set-has : (name : List ℕ) (keys : List (List ℕ)) → list_any (is_at (slice_cmp nat_cmp name)) keys ≡ list_any (bytes_eq name) keys
set-has name keys = ap (λ (t : List ℕ → Bool). list_any t keys) (λ i x. is_eq-slice_cmp name x i)

pub known-from : (names : List (List ℕ)) (known : BTreeSet (List ℕ)) (name : List ℕ) → known.keys ≡ with_names [] names → contains_by (slice_cmp nat_cmp name) known ≡ true → Contains names name
known-from names known name is h = elim (from-names [] names name (subst (λ (l : List (List ℕ)). Contains l name) is (among-from known.keys name (sym (set-has name known.keys) ∙ h)))) [
  | inl none ↦ absurd (Contains-nil name none)
  | inr there ↦ there
]

pub known-of : (names : List (List ℕ)) (known : BTreeSet (List ℕ)) (name : List ℕ) → known.keys ≡ with_names [] names → Contains names name → contains_by (slice_cmp nat_cmp name) known ≡ true
known-of names known name is there =
    set-has name known.keys ∙ among-of known.keys name (subst (λ (l : List (List ℕ)). Contains l name) (sym is) (put-names [] names name there))

-- a name that is put behind others is put to the set
pub known-more : (so_far names : List (List ℕ)) (name : List ℕ) → with_names so_far (names ++ name ∷ []) ≡ insert_key (slice_cmp nat_cmp) (with_names so_far names) name
known-more so_far [] name = refl
known-more so_far (n ∷ names) name = known-more (insert_key (slice_cmp nat_cmp) so_far n) names name
