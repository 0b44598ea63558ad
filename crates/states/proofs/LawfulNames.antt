-- Names in the order of their bytes.
use Rattle.std.proofs.Common.{◌≡◌, ◌≢◌, ℕ, not, true, false, List, [], ◌∷◌, Contains, refl, sym, ap, ◌∙◌, inl, inr}
use Rattle.std.proofs.lemmas.Bool.{and_from, and_parts, cases_Bool}
use Rattle.std.proofs.lemmas.Slice.Eq.{bytes_eq-Decides}
use Rattle.std.specs.Cmp.Lexicographic.{slice_cmp}
use Rattle.std.specs.List.{list_all}
use Rattle.std.specs.List.Sorted.{IsStrictlySortedBy}
use Rattle.std.specs.Ordering.{is_lt, nat_cmp}
use Rattle.std.specs.Str.{bytes_eq}
use Rattle.markers.specs.Names.{is_normal}
use Rattle.pylock.specs.Order.{rises}
use Rattle.pylock.specs.Packages.{are_dependencies, is_other}
use Rattle.states.specs.Tied.Entries.{AreNeeds}
use Rattle.lists.proofs.Members.{Contains-here, Contains-there}

-- other names have other bytes
pub apart : (a b : List ℕ) → bytes_eq a b ≡ false → b ≢ a
apart a b other same = cc (sym other ∙ (bytes_eq-Decides a b).1 (sym same))

pub differ : (a b : List ℕ) → b ≢ a → not (bytes_eq a b) ≡ true
differ a b other = elim (cases_Bool (bytes_eq a b)) [
  | inl same ↦ absurd (other (sym ((bytes_eq-Decides a b).0 same)))
  | inr apart ↦ rw apart refl
]

-- what is in order comes before the next one
pub rises-from : (texts : List (List ℕ)) → IsStrictlySortedBy (slice_cmp nat_cmp) texts → rises texts ≡ true
unfolding rises IsStrictlySortedBy
rises-from [] sorted = refl
rises-from (t ∷ []) sorted = refl
rises-from (t ∷ u ∷ rest) sorted = and_from (is_lt (slice_cmp nat_cmp t u)) (rises (u ∷ rest)) (ap is_lt sorted.0.0) (rises-from (u ∷ rest) sorted.1)

others-from : (own : List ℕ) (names : List (List ℕ)) → list_all is_normal names ≡ true → ((name : List ℕ) → Contains names name → name ≢ own) → list_all (is_other own) names ≡ true
others-from own [] normal others = refl
others-from own (name ∷ rest) normal others =
    let parts = and_parts (is_normal name) (list_all is_normal rest) normal in
    let other : not (bytes_eq name own) ≡ true = differ name own (λ same. others name (Contains-here name rest) (sym same)) in
    and_from (is_other own name) (list_all (is_other own) rest) (and_from (is_normal name) (not (bytes_eq name own)) parts.0 other)
    (others-from own rest parts.1 (λ n there. others n (Contains-there name rest n there)))

-- normal names that a name needs are dependencies
pub dependencies-from : (own : List ℕ) (names : List (List ℕ)) → AreNeeds own names → list_all is_normal names ≡ true → are_dependencies own names ≡ true
dependencies-from own names needs normal = and_from (rises names) (list_all (is_other own) names) (rises-from names needs.rising) (others-from own names normal needs.others)
