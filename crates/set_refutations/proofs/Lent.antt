-- Conflicts that are lent: those at some places of a list.
use Rattle.std.proofs.Common.{◌≡◌, ◌<◌, ℕ, zero, suc, List, [], ◌∷◌, Contains, length, get_or, map, refl, subst}
use Rattle.std.specs.List.{slice_get}
use Rattle.std.specs.Option.{option_map_or}
use Rattle.std.proofs.lemmas.List.Elements.{Contains-get_or}
use Rattle.lists.proofs.Members.{Contains-map}
use Rattle.set_refutations.specs.SetRefutations.{TermParts}

-- what stands at one of some places
pub few-read : {X : Type 0} (f : ℕ → X) (places : List ℕ) (i : ℕ) (d : X) → option_map_or f (slice_get places i) d ≡ get_or (map f places) i d
few-read f [] i d = refl
few-read f (p ∷ ps) zero d = refl
few-read f (p ∷ ps) (suc i) d = few-read f ps i d

-- what stands at places of a list is of the list
pub few-among : (all : List (List TermParts)) (places : List ℕ) → ((place : ℕ) → Contains places place → place < length all)
    → (old : List TermParts) → Contains (map (λ place. get_or all place []) places) old → Contains all old
few-among all places within old there =
    let at = Contains-map (λ place. get_or all place []) places old there in
    subst (λ (one : List TermParts). Contains all one) at.2 (Contains-get_or all at.0 [] (within at.0 at.1))
