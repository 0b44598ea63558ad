-- Targets that named environments make.
use Rattle.std.proofs.Common.{◌≡◌, ◌≢◌, ℕ, Ordering, Less, Equal, Greater, List, [], ◌∷◌, is_some, Ok, Err, refl, inl, inr}
use Rattle.std.proofs.lemmas.Bool.{cases_Bool}
use Rattle.std.specs.BTreeMap.{insert_entry, is_at}
use Rattle.std.specs.Cmp.Lexicographic.{slice_cmp}
use Rattle.std.specs.Map.{lookup}
use Rattle.std.specs.Ordering.{match_ordering, nat_cmp}
use Rattle.markers.specs.Environment.{Texts}
use Rattle.states.specs.Targets.{with_targets}

-- one of three lists, none of which is empty
one-of : {X : Type 0} (order : Ordering) (a b c : List X) → a ≢ [] → b ≢ [] → c ≢ [] → match_ordering order a b c ≢ []
one-of Less a b c na nb nc = na
one-of Equal a b c na nb nc = nb
one-of Greater a b c na nb nc = nc

-- a list with an item isn't empty
insert-some : (targets : List (List ℕ × Texts)) (name : List ℕ) (environment : Texts) → insert_entry (slice_cmp nat_cmp) targets name environment ≢ []
insert-some [] name environment = λ e. cc
insert-some (p ∷ more) name environment = one-of (slice_cmp nat_cmp name p.0) _ _ _ (λ e. cc) (λ e. cc) (λ e. cc)

-- more targets aren't fewer
more-some : (targets more found : List (List ℕ × Texts)) → targets ≢ [] → with_targets targets more ≡ Ok found → found ≢ []
more-some targets [] found some made = λ none. some cc
more-some targets (p ∷ more) found some made = elim (cases_Bool (is_some (lookup (is_at (slice_cmp nat_cmp p.0)) targets))) [
  | inl twice ↦ λ none. let refused : Err _ ≡ Ok found = rw twice at made in cc
  | inr new ↦ more-some (insert_entry (slice_cmp nat_cmp) targets p.0 p.1) more found (insert-some targets p.0 p.1) (rw new at made)
]

-- where some environments were given, there are some targets
pub given-some : (given found : List (List ℕ × Texts)) → given ≢ [] → with_targets [] given ≡ Ok found → found ≢ []
given-some [] found some made = absurd (some refl)
given-some (p ∷ more) found some made = more-some ((p.0, p.1) ∷ []) more found (λ e. cc) made
