-- Facts on reading markers.
use Rattle.std.proofs.Common.{◌≡◌, ℕ, zero, suc, true, false, List, [], ◌∷◌, drop, Option, Some, None, Ok, Err, refl, ap, ◌∙◌, inl, inr}
use Rattle.std.specs.Prelude.{ok_or, option_and_then}
use Rattle.std.specs.Option.{option_map}
use Rattle.lists.specs.Answers.{Answers}
use Rattle.markers.specs.Tied.MarkerReading.{step, tree_behind}
use Rattle.lists.specs.Spaces.{is_space_or_tab}
use Rattle.markers.specs.Tied.MarkerTokens.{token_at, tokens_from}
use Rattle.markers.specs.MarkerTree.{Tree}
use Rattle.markers.specs.declared.fault.Cause.{Cause}
use Rattle.markers.specs.declared.fault.Cause.TheVariants.{BadMarker, OutOfMemory}
use Rattle.markers.specs.declared.marker_reader.Reader.{Reader}
use Rattle.markers.specs.declared.marker_token.Token.{Token}

pub some-ok_or : {A : Type 0} (o : Option A) (a : A) → ok_or o BadMarker ≡ Ok a → o ≡ Some a
some-ok_or None a h = absurd cc
some-ok_or (Some b) a h = let e : b ≡ a = cc in ap Some e

none-ok_or : {A : Type 0} (o : Option A) (e : Cause) → ok_or o BadMarker ≡ Err e → (o ≡ None) × (e ≡ BadMarker)
none-ok_or None e h = (refl, cc)
none-ok_or (Some b) e h = absurd cc

-- a fault of one part is the fault of the whole
pub fault_of_part : {A B : Type 0} (o : Option A) (p : Option B) (e : Cause) → (o ≡ None → p ≡ None) → Answers OutOfMemory (ok_or o BadMarker) (Err e) → Answers OutOfMemory (ok_or p BadMarker) (Err e)
fault_of_part o p e breaks (inl memory) = inl memory
fault_of_part o p e breaks (inr bad) =
    let q = none-ok_or o e bad in
    inr (rw (breaks q.0, q.1) refl)

-- the tree that tokens are behind what was read, where the text has tokens
abbrev pub tree_in : Reader → Option (List Token) → Option Tree
tree_in r found = option_and_then (tree_behind r) found

pub tokens_from-drop : (k : ℕ) (text : List ℕ) → tokens_from k text ≡ tokens_from 0 (drop k text)
unfolding tokens_from
tokens_from-drop zero [] = refl
tokens_from-drop zero (b ∷ rest) = refl
tokens_from-drop (suc k) [] = refl
tokens_from-drop (suc k) (b ∷ rest) = tokens_from-drop k rest

pub tree_in-space : (r : Reader) (b : ℕ) (rest : List ℕ) → is_space_or_tab b ≡ true → tree_in r (tokens_from 0 (b ∷ rest)) ≡ tree_in r (tokens_from 0 rest)
unfolding tokens_from
tree_in-space r b rest space = rw space refl

tree_in-first : (r s : Reader) (t : Token) (found : Option (List Token)) → step r t ≡ Some s → tree_in r (option_map (λ rest. t ∷ rest) found) ≡ tree_in s found
tree_in-first r s t None taken = refl
tree_in-first r s t (Some rest) taken = rw taken refl

pub tree_in-token : (r s : Reader) (b : ℕ) (rest : List ℕ) (t : Token) (k : ℕ) → is_space_or_tab b ≡ false → token_at (b ∷ rest) ≡ Some (t, k) → step r t ≡ Some s
    → tree_in r (tokens_from 0 (b ∷ rest)) ≡ tree_in s (tokens_from 0 (drop k rest))
unfolding tokens_from
tree_in-token r s b rest t k solid found taken =
    rw (solid, found) (tree_in-first r s t (tokens_from k rest) taken ∙ ap (tree_in s) (tokens_from-drop k rest))

pub tree_in-no_token : (r : Reader) (b : ℕ) (rest : List ℕ) → is_space_or_tab b ≡ false → token_at (b ∷ rest) ≡ None → tree_in r (tokens_from 0 (b ∷ rest)) ≡ None
unfolding tokens_from
tree_in-no_token r b rest solid missing = rw (solid, missing) refl

tree_in-no_step : (r : Reader) (t : Token) (found : Option (List Token)) → step r t ≡ None → tree_in r (option_map (λ rest. t ∷ rest) found) ≡ None
tree_in-no_step r t None stuck = refl
tree_in-no_step r t (Some rest) stuck = rw stuck refl

pub tree_in-bad_token : (r : Reader) (b : ℕ) (rest : List ℕ) (t : Token) (k : ℕ) → is_space_or_tab b ≡ false → token_at (b ∷ rest) ≡ Some (t, k) → step r t ≡ None
    → tree_in r (tokens_from 0 (b ∷ rest)) ≡ None
unfolding tokens_from
tree_in-bad_token r b rest t k solid found stuck = rw (solid, found) (tree_in-no_step r t (tokens_from k rest) stuck)
