-- Names that are put into order, each once.
use Rattle.std.proofs.Common.{◌⊎◌, ℕ, List, [], ◌∷◌, Contains, subst, inl, inr}
use Rattle.std.proofs.lemmas.Map.Lookups.{exact_bytes}
use Rattle.std.specs.BTreeSet.{insert_key}
use Rattle.std.specs.Cmp.Lexicographic.{nat_list_cmp_total, slice_cmp}
use Rattle.std.specs.List.Sorted.{IsStrictlySortedBy}
use Rattle.std.specs.Ordering.{nat_cmp}
use Rattle.lists.proofs.SortedInserts.{from-insert, kept-insert, put-insert, sorted-insert}
use Rattle.states.specs.Names.{with_names}
use Rattle.lists.proofs.Members.{Contains-cons_cases, Contains-here, Contains-nil, Contains-there}

-- ---- order

sorted-more : (names more : List (List ℕ)) → IsStrictlySortedBy (slice_cmp nat_cmp) names → IsStrictlySortedBy (slice_cmp nat_cmp) (with_names names more)
sorted-more names [] s = s
sorted-more names (name ∷ more) s = sorted-more (insert_key (slice_cmp nat_cmp) names name) more (sorted-insert nat_list_cmp_total names name s)

-- names that are put together from none are in order
pub sorted-names : (more : List (List ℕ)) → IsStrictlySortedBy (slice_cmp nat_cmp) (with_names [] more)
unfolding IsStrictlySortedBy
sorted-names more = sorted-more [] more tt

-- ---- members

pub from-names : (names more : List (List ℕ)) (x : List ℕ) → Contains (with_names names more) x → Contains names x ⊎ Contains more x
from-names names [] x h = inl h
from-names names (name ∷ more) x h = elim (from-names (insert_key (slice_cmp nat_cmp) names name) more x h) [
  | inl old ↦ elim (from-insert (slice_cmp nat_cmp) names name x old) [
    | inl there ↦ inl there
    | inr e ↦ inr (subst (λ z. Contains (name ∷ more) z) e (Contains-here name more))
  ]
  | inr r ↦ inr (Contains-there name more x r)
]

kept-names : (names more : List (List ℕ)) (x : List ℕ) → Contains names x → Contains (with_names names more) x
kept-names names [] x h = h
kept-names names (name ∷ more) x h = kept-names (insert_key (slice_cmp nat_cmp) names name) more x (kept-insert (slice_cmp nat_cmp) names name x h)

pub put-names : (names more : List (List ℕ)) (x : List ℕ) → Contains more x → Contains (with_names names more) x
put-names names [] x h = absurd (Contains-nil x h)
put-names names (name ∷ more) x h = elim (Contains-cons_cases name more x h) [
  | inl e ↦ subst (λ z. Contains (with_names names (name ∷ more)) z) e
      (kept-names (insert_key (slice_cmp nat_cmp) names name) more name (put-insert (slice_cmp nat_cmp) exact_bytes names name))
  | inr r ↦ put-names (insert_key (slice_cmp nat_cmp) names name) more x r
]
