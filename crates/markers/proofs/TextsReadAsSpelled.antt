-- The law of reading markers: a text is read as the marker that it spells.
use Rattle.std.proofs.Common.{◌≡◌, ℕ, true, false, List, Option, Some, Ok, Err, refl, ap, ◌∙◌, inl, inr}
use Rattle.std.proofs.lemmas.Bool.{cases_Bool}
use Rattle.std.specs.Prelude.{option_and_then}
use Rattle.markers.specs.Marker.{marker_of}
use Rattle.markers.specs.Tied.MarkerReading.{tree_of, tree_of_tokens}
use Rattle.markers.specs.MarkerSpelling.{SpellsMarker}
use Rattle.markers.specs.MarkerDepth.{is_too_deep}
use Rattle.markers.specs.Tied.MarkerTokens.{tokens_of}
use Rattle.markers.specs.MarkerTree.{Tree}
use Rattle.markers.specs.declared.fault.Cause.TheVariants.{MarkerTooDeep}
use Rattle.markers.specs.declared.marker_token.Token.{Token}
use Rattle.markers.proofs.SpelledIsRead.{marker-read}
use Rattle.markers.proofs.ReadFacts.{some-ok_or}
use Rattle.markers.proofs.ReadIsSpelled.{marker-spelled, some-and_then}
use Rattle.markers.proofs.TokensAreSpelled.{tokens-found}
use Rattle.markers.proofs.SpelledTokensAreFound.{tokens-read}

tree-spelled : (text : List ℕ) (t : Tree) → tree_of text ≡ Some t → SpellsMarker text t
unfolding tree_of
tree-spelled text t h =
    let p = some-and_then tree_of_tokens (tokens_of text) t h in
    record { tokens = p.0; are_tokens = tokens-found text 0 p.0 p.1; are_marker = marker-spelled p.0 t p.2 }

tree-read : (text : List ℕ) (t : Tree) → SpellsMarker text t → tree_of text ≡ Some t
unfolding tree_of
tree-read text t h = ap (λ (found : Option (List Token)). option_and_then tree_of_tokens found) (tokens-read h.tokens text h.are_tokens) ∙ marker-read h.tokens t h.are_marker

pub text-spells : (text : List ℕ) (t : Tree) → marker_of text ≡ Ok t → (is_too_deep text ≡ false) × SpellsMarker text t
unfolding marker_of
text-spells text t h = elim (cases_Bool (is_too_deep text)) [
  | inl deep ↦ absurd (let g = (rw deep at h) in cc)
  | inr shallow ↦ let g = (rw shallow at h) in (shallow, tree-spelled text t (some-ok_or (tree_of text) t g))
]

pub text-read : (text : List ℕ) (t : Tree) → is_too_deep text ≡ false → SpellsMarker text t → marker_of text ≡ Ok t
unfolding marker_of
text-read text t shallow h = rw (shallow, tree-read text t h) refl

pub text-too_deep : (text : List ℕ) → is_too_deep text ≡ true → marker_of text ≡ Err MarkerTooDeep
unfolding marker_of
text-too_deep text deep = rw deep refl

pub one_marker : (text : List ℕ) (t u : Tree) → SpellsMarker text t → SpellsMarker text u → t ≡ u
one_marker text t u h g =
    let a = tree-read text t h in
    let b = tree-read text u g in
    cc
