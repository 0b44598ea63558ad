-- A marker holds in both environments or in neither where each of its relations does.
use Rattle.std.proofs.Common.{◌≡◌, ◌&&◌, ◌||◌, ℕ, List, [], ◌∷◌, ◌++◌, Option, refl}
use Rattle.std.specs.List.{AllByRecursion}
use Rattle.markers.specs.Environment.{Texts}
use Rattle.markers.specs.MarkerHolds.{all_hold, any_holds, holds}
use Rattle.markers.specs.MarkerRelations.{RelationAlike, relations_among, relations_in}
use Rattle.markers.specs.MarkerTree.{Tree, atom, all_of, any_of, Trees, no_trees, tree}
use Rattle.markers.specs.declared.marker_atom.Atom.TheVariants as atoms

each-front : {A : Type 0} (P : A → Type 0) (xs ys : List A) → AllByRecursion P (xs ++ ys) → AllByRecursion P xs
each-front P [] ys h = tt
each-front P (x ∷ xs) ys h = (h.0, each-front P xs ys h.1)

each-behind : {A : Type 0} (P : A → Type 0) (xs ys : List A) → AllByRecursion P (xs ++ ys) → AllByRecursion P ys
each-behind P [] ys h = h
each-behind P (x ∷ xs) ys h = each-behind P xs ys h.1

mutual
  pub relations-decide : (t : Tree) (environment other : Texts) (extra : Option (List ℕ))
      → AllByRecursion (RelationAlike environment other) (relations_in t) → holds t environment extra ≡ holds t other extra
  relations-decide (atom (atoms.Relation r)) environment other extra h = h.0
  relations-decide (atom (atoms.Extra equal name)) environment other extra h = refl
  relations-decide (all_of ts) environment other extra h = all-decided ts environment other extra h
  relations-decide (any_of ts) environment other extra h = any-decided ts environment other extra h

  all-decided : (ts : Trees) (environment other : Texts) (extra : Option (List ℕ))
      → AllByRecursion (RelationAlike environment other) (relations_among ts) → all_hold ts environment extra ≡ all_hold ts other extra
  all-decided no_trees environment other extra h = refl
  all-decided (tree t ts) environment other extra h = λ i.
      relations-decide t environment other extra (each-front (RelationAlike environment other) (relations_in t) (relations_among ts) h) i
      && all-decided ts environment other extra (each-behind (RelationAlike environment other) (relations_in t) (relations_among ts) h) i

  any-decided : (ts : Trees) (environment other : Texts) (extra : Option (List ℕ))
      → AllByRecursion (RelationAlike environment other) (relations_among ts) → any_holds ts environment extra ≡ any_holds ts other extra
  any-decided no_trees environment other extra h = refl
  any-decided (tree t ts) environment other extra h = λ i.
      relations-decide t environment other extra (each-front (RelationAlike environment other) (relations_in t) (relations_among ts) h) i
      || any-decided ts environment other extra (each-behind (RelationAlike environment other) (relations_in t) (relations_among ts) h) i
