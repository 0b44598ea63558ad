-- Lists of what is asked for.
use Rattle.std.proofs.Common.{◌≡◌, ◌∙◌, ℕ, zero, suc, ◌+◌, ◌<◌, List, [], ◌∷◌, ◌++◌, get_or, length, map, take, arith, ap, sym}
use Rattle.std.proofs.lemmas.List.{map-append, take_more}

-- what stands at a place of a list that is mapped
pub at-mapped : {A B : Type 0} (f : A → B) (xs : List A) (place : ℕ) (x : A) → place < length xs → x ≡ get_or xs place x → f x ≡ get_or (map f xs) place (f x)
at-mapped f [] place x within is = absurd (omega arith)
at-mapped f (y ∷ xs) zero x within is = ap f is
at-mapped f (y ∷ xs) (suc place) x within is = at-mapped f xs place x (omega arith) is

pub map-more : {A B : Type 0} (f : A → B) (xs : List A) (place : ℕ) (x : A) → place < length xs → x ≡ get_or xs place x → map f (take (place + 1) xs) ≡ map f (take place xs) ++ f x ∷ []
map-more f xs place x within is = ap (map f) (take_more xs place x within) ∙ map-append f (take place xs) (get_or xs place x ∷ []) ∙ ap (λ y. map f (take place xs) ++ f y ∷ []) (sym is)
