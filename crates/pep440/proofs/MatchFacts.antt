-- Facts on releases that begin with a prefix.
use Rattle.std.proofs.Common.{◌≡◌, ℕ, ◌+◌, ◌<◌, ◌≤◌, true, eqb, ◌&&◌, List, [], ◌∷◌, length, get_or, drop, refl, ◌∙◌, arith, inl, inr}
use Rattle.std.proofs.lemmas.Bool.{cases_lt}
use Rattle.std.proofs.lemmas.List.{at_drop_more, drop_all, get_or_past}
use Rattle.pep440.specs.Matching.{begins}

-- one number more of the prefix
pub begins-step : (ns ps : List ℕ) (i : ℕ) → i < length ps → begins (drop i ns) (drop i ps) ≡ (eqb (get_or ns i 0) (get_or ps i 0) && begins (drop (i + 1) ns) (drop (i + 1) ps))
begins-step ns ps i within = elim (cases_lt i (length ns)) [
  | inl inside ↦ at_drop_more (λ t. begins t (drop i ps)) ns i 0 inside ∙ at_drop_more (begins (get_or ns i 0 ∷ drop (i + 1) ns)) ps i 0 within
  | inr past ↦
      let none : drop i ns ≡ [] = drop_all i ns past in
      let none_more : drop (i + 1) ns ≡ [] = drop_all (i + 1) ns (omega arith) in
      rw (none, none_more, get_or_past ns i 0 past) (at_drop_more (begins []) ps i 0 within)
]

pub begins-end : (ns ps : List ℕ) (i : ℕ) → length ps ≤ i → begins (drop i ns) (drop i ps) ≡ true
begins-end ns ps i past = rw (drop_all i ps past) (any (drop i ns))
  where
    any : (ms : List ℕ) → begins ms [] ≡ true
    any [] = refl
    any (m ∷ ms) = refl
