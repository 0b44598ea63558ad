-- Lists in the order of their bytes.
use Rattle.std.specs.Prelude.{ℕ, ◌&&◌, Bool, true, List, [], ◌∷◌}
use Rattle.std.specs.Cmp.Lexicographic.{slice_cmp}
use Rattle.std.specs.Ordering.{is_lt, nat_cmp}

-- each text comes before the next one, so that no two are equal
unfoldable pub rises : List (List ℕ) → Bool
rises [] = true
rises (t ∷ []) = true
rises (t ∷ u ∷ rest) = is_lt (slice_cmp nat_cmp t u) && rises (u ∷ rest)
