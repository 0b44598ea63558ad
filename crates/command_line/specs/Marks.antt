-- Arguments, as help shows them, of which something holds or not. All of it is reqlock's own rule.
use Rattle.std.specs.Prelude.{Bool, List, [], ◌∷◌, Option, None, Some, filter, map}
use Rattle.clap.specs.Words.{Text}

-- the arguments of which it holds, in their order
abbrev pub marked : List (Text × Bool) → List Text
marked marks = map (λ m. m.0) (filter (λ m. m.1) marks)

-- the first text, and the first where there are two or more
abbrev pub first_text : List Text → Option Text
first_text [] = None
first_text (one ∷ others) = Some one

abbrev pub first_of_several : List Text → Option Text
first_of_several [] = None
first_of_several (one ∷ []) = None
first_of_several (one ∷ (other ∷ others)) = Some one

-- the first argument of which it holds, and the first of two
unfoldable pub first_marked : List (Text × Bool) → Option Text
first_marked marks = first_text (marked marks)

unfoldable pub first_of_two : List (Text × Bool) → Option Text
first_of_two marks = first_of_several (marked marks)
