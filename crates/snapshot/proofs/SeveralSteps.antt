-- Taking apart what was read in several steps.
use Rattle.std.proofs.Common.{◌≡◌, ℕ, suc, List, [], ◌∷◌, Option, Some, None, Result, Ok, Err, refl}
use Rattle.std.specs.Prelude.{option_and_then}
use Rattle.std.specs.List.{AllByRecursion}
use Rattle.serde_json.specs.Data.{Data, Items, no_items, item}
use Rattle.snapshot.specs.declared.fault.Fault.{Fault}
use Rattle.snapshot.specs.Shape.{◌>>=◌, below, each_from, found_at, place_path}

-- what stands in two answers that are one
pub ok-inside : {A E : Type 0} (x y : A) → ◌≡◌ {A = Result A E} (Ok x) (Ok y) → x ≡ y
ok-inside x y e = cc

-- what was read first, where both were read
pub record Both {A B E : Type 0} (read : Result A E) (next : A → Result B E) (y : B) : Type 0 where
  pub first : A
  pub is : read ≡ Ok first
  pub then : next first ≡ Ok y

pub both : {A B E : Type 0} (read : Result A E) (next : A → Result B E) (y : B) → (read >>= next) ≡ Ok y → Both read next y
both (Ok x) next y e = record { first = x; is = refl; then = e }
both (Err d) next y e = absurd cc

pub inside : {A : Type 0} (path : List ℕ) (read : Result A Fault) (x : A) → below path read ≡ Ok x → read ≡ Ok x
inside path (Ok y) x e = e
inside path (Err d) x e = absurd cc

-- what was found
pub found : {A : Type 0} (path : List ℕ) (o : Option A) (x : A) → found_at path o ≡ Ok x → o ≡ Some x
found path (Some y) x e = cc
found path None x e = absurd cc

-- what holds of each value of a form holds of that of an option
pub through : {A B : Type 0} (form : A → Option B) (P : B → Type 0) → ((a : A) (b : B) → form a ≡ Some b → P b) → (o : Option A) (b : B) → option_and_then form o ≡ Some b → P b
through form P each (Some a) b e = each a b e
through form P each None b e = absurd cc

-- what holds of each item that is read holds of all items of an array
pub each-holds : {A : Type 0} (form : Data → Result A Fault) (P : A → Type 0) → ((d : Data) (x : A) → form d ≡ Ok x → P x) → (place : ℕ) (ds : Items) (xs : List A) → each_from form place ds ≡ Ok xs → AllByRecursion P xs
unfolding each_from
each-holds form P each place no_items xs e =
    let none : [] ≡ xs = ok-inside _ _ e in
    rw (← none) tt
each-holds form P each place (item d ds) xs e =
    let one = both (below (place_path place) (form d)) _ xs e in
    let rest = both (each_from form (suc place) ds) _ xs one.then in
    let same : one.first ∷ rest.first ≡ xs = ok-inside _ _ rest.then in
    rw (← same) (each d one.first (inside (place_path place) (form d) one.first one.is), each-holds form P each (suc place) ds rest.first rest.is)
