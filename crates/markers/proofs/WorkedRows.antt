-- Worked values of the definitions.
use Rattle.std.specs.Prelude.{◌≡◌, [], ◌∷◌, codes, refl}
use Rattle.markers.specs.MarkerDepth.{count_closed, count_opened}
use Rattle.markers.specs.Names.{normal_of, words_of}

-- parentheses in quotes don't count, and a quote that isn't closed runs to the end
opened_outside : count_opened (codes "(('(') \"((") ≡ 2
opened_outside = refl

closed_outside : count_closed (codes "(('(') \"((") ≡ 1
closed_outside = refl

-- a quote ends at the next one of its kind
other_quotes : count_opened (codes "'\"(' (") ≡ 1
other_quotes = refl

words : words_of (codes "Friendly--_.Bard") ≡ codes "Friendly" ∷ codes "Bard" ∷ []
words = refl

normal_form : normal_of (codes "A_b..c-D") ≡ codes "a-b-c-d"
unfolding normal_of
normal_form = refl
