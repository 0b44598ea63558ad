-- Lists that are taken over item by item.
use Rattle.std.proofs.Common.{◌≡◌, ◌∙◌, ℕ, ◌+◌, ◌<◌, List, [], ◌∷◌, ◌++◌, get_or, length, take, ap, sym}
use Rattle.std.proofs.lemmas.List.{take_more}

-- one more of what is taken over
pub taken-more : {A : Type 0} (mid new xs : List A) (place : ℕ) (x : A) → place < length xs → x ≡ get_or xs place x → mid ≡ take place xs → new ≡ mid ++ x ∷ [] → new ≡ take (place + 1) xs
taken-more mid new xs place x within is front pushed = pushed ∙ ap (λ ys. ys ++ x ∷ []) front ∙ ap (λ y. take place xs ++ y ∷ []) is ∙ sym (take_more xs place x within)
