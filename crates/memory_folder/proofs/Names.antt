-- What stands at a name after one change more.
use Rattle.std.proofs.Common.{◌≡◌, ◌<◌, ◌+◌, ℕ, Bool, true, false, List, Option, Some, None, get_or, length, take, if◌then◌else◌, refl, sym, ap, ◌∙◌, inl, inr}
use Rattle.std.proofs.lemmas.Bool.{cases_Bool}
use Rattle.std.proofs.lemmas.Slice.Eq.{bytes_eq-Decides}
use Rattle.std.specs.Str.{bytes_eq}
use Rattle.folder.specs.Held.{Held}
use Rattle.folder.proofs.InTurn.{in_turn-more}
use Rattle.memory_folder.specs.Changes.{at_name, change_done, changed_at, empty, held_after}
use Rattle.memory_folder.specs.declared.changes.Change.{Change}
use Rattle.memory_folder.specs.declared.changes.Change.TheVariants.{Staged, Renamed, Removed, Cleared}
use Rattle.memory_folder.specs.declared.changes.Standing.{Standing}

abbrev stands : Option (List ℕ) → Option (List ℕ) → Standing
stands placed beside = record { placed = placed; beside = beside }

one : (b : Bool) (p q r s : Option (List ℕ)) → stands (if b then p else r) (if b then q else s) ≡ (if b then stands p q else stands r s)
one true p q r s = refl
one false p q r s = refl

beside_one : (b : Bool) (q r s : Option (List ℕ)) → stands r (if b then q else s) ≡ (if b then stands r q else stands r s)
beside_one true q r s = refl
beside_one false q r s = refl

placed_one : (b : Bool) (p r s : Option (List ℕ)) → stands (if b then p else r) s ≡ (if b then stands p s else stands r s)
placed_one true p r s = refl
placed_one false p r s = refl

moved : (other name : List ℕ) (h : Held) → (if bytes_eq other name then h.beside other else h.placed name) ≡ (if bytes_eq other name then h.beside name else h.placed name)
moved other name h = elim (cases_Bool (bytes_eq other name)) [
  | inl is ↦ ap (λ (n : List ℕ). if bytes_eq other name then h.beside n else h.placed name) ((bytes_eq-Decides other name).0 is)
  | inr differ ↦ ap (λ (b : Bool). if b then h.beside other else h.placed name) differ ∙ ap (λ (b : Bool). if b then h.beside name else h.placed name) (sym differ)
]

pub at_changed : (name : List ℕ) (change : Change) (h : Held) → at_name name (change_done change h) ≡ changed_at name change (at_name name h)
at_changed name (Staged other bytes) h = beside_one (bytes_eq other name) (Some bytes) (h.placed name) (h.beside name)
at_changed name (Renamed other) h =
    (λ i. record { placed = moved other name h i; beside = if bytes_eq other name then None else h.beside name }) ∙ one (bytes_eq other name) (h.beside name) None (h.placed name) (h.beside name)
at_changed name (Removed other) h = placed_one (bytes_eq other name) None (h.placed name) (h.beside name)
at_changed name (Cleared other) h = beside_one (bytes_eq other name) None (h.placed name) (h.beside name)

pub one_more : (name : List ℕ) (changes : List Change) (i : ℕ) (change : Change) (old new : Standing) → i < length changes → change ≡ get_or changes i change
    → old ≡ at_name name (held_after (take i changes)) → new ≡ changed_at name change old → new ≡ at_name name (held_after (take (i + 1) changes))
one_more name changes i change old new within is so_far next =
    next ∙ ap (λ (s : Standing). changed_at name change s) so_far ∙ sym (at_changed name change (held_after (take i changes)))
    ∙ sym (ap (λ (h : Held). at_name name h) (in_turn-more change_done changes i change empty within is))
