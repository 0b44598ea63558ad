-- Steps that are made in turn.
use Rattle.std.proofs.Common.{◌≡◌, ◌<◌, ◌+◌, ◌++◌, ℕ, List, [], ◌∷◌, get_or, length, take, refl, sym, ap, ◌∙◌, take-suc, add-one}
use Rattle.folder.specs.Held.{Held, in_turn}

pub in_turn-behind : {X : Type 0} (step : X → Held → Held) (xs : List X) (x : X) (h : Held) → in_turn step (xs ++ x ∷ []) h ≡ step x (in_turn step xs h)
in_turn-behind step [] x h = refl
in_turn-behind step (y ∷ xs) x h = in_turn-behind step xs x (step y h)

-- one step more
pub in_turn-more : {X : Type 0} (step : X → Held → Held) (xs : List X) (i : ℕ) (x : X) (h : Held) → i < length xs → x ≡ get_or xs i x → in_turn step (take (i + 1) xs) h ≡ step x (in_turn step (take i xs) h)
in_turn-more step xs i x h within is =
    ap (λ (ys : List _). in_turn step ys h) (ap (λ (n : ℕ). take n xs) (add-one i) ∙ take-suc xs i x within)
    ∙ in_turn-behind step (take i xs) (get_or xs i x) h ∙ ap (λ (y : _). step y (in_turn step (take i xs) h)) (sym is)
