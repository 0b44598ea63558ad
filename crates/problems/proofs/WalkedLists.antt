-- Lists that are gone over by places: what is found behind a place is found in the list, and what stands at one is there.
use Rattle.std.proofs.Common.{IfSome, Option, Some, None, is_some, ◌≡◌, ◌<◌, ◌||◌, ℕ, zero, suc, Bool, true, false, List, [], ◌∷◌, Contains, drop, get_or, length, refl, subst, sym}
use Rattle.std.specs.List.{list_any, slice_get}
use Rattle.std.proofs.lemmas.Option.{slice_get_read}
use Rattle.lists.proofs.Members.{Contains-here, Contains-there}

pub either-more : (a b : Bool) → b ≡ true → (a || b) ≡ true
either-more true b e = refl
either-more false b e = e

pub any-behind : {X : Type 0} (p : X → Bool) (xs : List X) (n : ℕ) → list_any p (drop n xs) ≡ true → list_any p xs ≡ true
any-behind p xs zero h = h
any-behind p [] (suc n) h = h
any-behind p (x ∷ xs) (suc n) h = either-more (p x) (list_any p xs) (any-behind p xs n h)

-- what is found behind a place is there
pub some-behind : {X : Type 0} (p : X → Bool) (xs : List X) (n : ℕ) (found : Option ℕ) → is_some found ≡ list_any p (drop n xs) → IfSome found (λ _. list_any p xs ≡ true)
some-behind p xs n None e = tt
some-behind p xs n (Some place) e = any-behind p xs n (sym e)

pub placed : {X : Type 0} (xs : List X) (k : ℕ) (x : X) → k < length xs → x ≡ get_or xs k x → slice_get xs k ≡ Some x
placed xs k x within is = slice_get_read xs (length xs) k x refl within is

pub slice_get-there : {X : Type 0} (xs : List X) (k : ℕ) (x : X) → slice_get xs k ≡ Some x → Contains xs x
slice_get-there [] k x e = absurd cc
slice_get-there (y ∷ ys) zero x e = let same : y ≡ x = cc in subst (λ z. Contains (y ∷ ys) z) same (Contains-here y ys)
slice_get-there (y ∷ ys) (suc k) x e = Contains-there y ys x (slice_get-there ys k x e)
