-- What is found in a conflict is within it.
use Rattle.std.proofs.Common.{◌≡◌, ◌||◌, ℕ, Bool, true, false, IfSome, List, Option, Some, None, refl}
use Rattle.std.specs.List.{list_any}
use Rattle.problems.specs.Choices.{ChoiceParts}
use Rattle.refutations.specs.Tied.Cases.{is_same, is_within}
use Rattle.problems.proofs.WalkedLists.{either-more}

either-first : (a b : Bool) → a ≡ true → (a || b) ≡ true
either-first true b e = refl
either-first false b e = absurd cc

pub within-found : (conflict : List ChoiceParts) (choice member : ChoiceParts) (found : Option ℕ) → IfSome found (λ _. list_any (is_same member) conflict ≡ true)
    → IfSome found (λ _. is_within conflict choice member ≡ true)
within-found conflict choice member None e = tt
within-found conflict choice member (Some place) e = either-first (list_any (is_same member) conflict) (is_same member choice) e

pub within-put : (conflict : List ChoiceParts) (choice member : ChoiceParts) → is_same member choice ≡ true → is_within conflict choice member ≡ true
within-put conflict choice member e = either-more (list_any (is_same member) conflict) (is_same member choice) e
