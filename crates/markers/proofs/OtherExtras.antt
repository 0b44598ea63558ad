-- A marker doesn't tell an extra that it doesn't name from none.
use Rattle.std.proofs.Common.{◌≡◌, ◌&&◌, ◌||◌, ℕ, not, true, false, List, [], ◌∷◌, ◌++◌, Option, Some, None, refl, ap, inl, inr}
use Rattle.std.proofs.lemmas.Bool.{cases_Bool}
use Rattle.std.specs.Option.{option_to_list}
use Rattle.std.specs.Str.{bytes_eq}
use Rattle.markers.specs.Environment.{Texts}
use Rattle.markers.specs.MarkerAtoms.{is_asked}
use Rattle.markers.specs.MarkerExtras.{extras_among, extras_in, is_among}
use Rattle.markers.specs.MarkerHolds.{all_hold, any_holds, holds}
use Rattle.markers.specs.MarkerTree.{Tree, atom, all_of, any_of, Trees, no_trees, tree}
use Rattle.markers.specs.declared.marker_atom.Atom.TheVariants as atoms

among-front : (extra : List ℕ) (names more : List (List ℕ)) → is_among extra (names ++ more) ≡ false → is_among extra names ≡ false
among-front extra [] more h = refl
among-front extra (name ∷ names) more h = elim (cases_Bool (bytes_eq name extra)) [
  | inl one ↦ absurd (let k : true ≡ false = rw one at h in cc)
  | inr other ↦ rw other (among-front extra names more (rw other at h))
]

among-behind : (extra : List ℕ) (names more : List (List ℕ)) → is_among extra (names ++ more) ≡ false → is_among extra more ≡ false
among-behind extra [] more h = h
among-behind extra (name ∷ names) more h = elim (cases_Bool (bytes_eq name extra)) [
  | inl one ↦ absurd (let k : true ≡ false = rw one at h in cc)
  | inr other ↦ among-behind extra names more (rw other at h)
]

asked-none : (name : Option (List ℕ)) (extra : List ℕ) → is_among extra (option_to_list name) ≡ false → is_asked name (Some extra) ≡ is_asked name None
asked-none None extra h = refl
asked-none (Some name) extra h = elim (cases_Bool (bytes_eq name extra)) [
  | inl one ↦ absurd (let k : true ≡ false = rw one at h in cc)
  | inr other ↦ other
]

mutual
  pub others-are_as_none : (t : Tree) (environment : Texts) (extra : List ℕ) → is_among extra (extras_in t) ≡ false → holds t environment (Some extra) ≡ holds t environment None
  others-are_as_none (atom (atoms.Relation r)) environment extra h = refl
  others-are_as_none (atom (atoms.Extra true None)) environment extra h = refl
  others-are_as_none (atom (atoms.Extra false None)) environment extra h = refl
  others-are_as_none (atom (atoms.Extra true (Some name))) environment extra h = asked-none (Some name) extra h
  others-are_as_none (atom (atoms.Extra false (Some name))) environment extra h = ap not (asked-none (Some name) extra h)
  others-are_as_none (all_of ts) environment extra h = all-as_none ts environment extra h
  others-are_as_none (any_of ts) environment extra h = any-as_none ts environment extra h

  all-as_none : (ts : Trees) (environment : Texts) (extra : List ℕ) → is_among extra (extras_among ts) ≡ false → all_hold ts environment (Some extra) ≡ all_hold ts environment None
  all-as_none no_trees environment extra h = refl
  all-as_none (tree t ts) environment extra h = λ i.
      others-are_as_none t environment extra (among-front extra (extras_in t) (extras_among ts) h) i
      && all-as_none ts environment extra (among-behind extra (extras_in t) (extras_among ts) h) i

  any-as_none : (ts : Trees) (environment : Texts) (extra : List ℕ) → is_among extra (extras_among ts) ≡ false → any_holds ts environment (Some extra) ≡ any_holds ts environment None
  any-as_none no_trees environment extra h = refl
  any-as_none (tree t ts) environment extra h = λ i.
      others-are_as_none t environment extra (among-front extra (extras_in t) (extras_among ts) h) i
      || any-as_none ts environment extra (among-behind extra (extras_in t) (extras_among ts) h) i
