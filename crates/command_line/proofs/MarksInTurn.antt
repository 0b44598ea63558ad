-- Arguments of which something holds, gone over one by one.
use Rattle.std.proofs.Common.{◌≡◌, ◌∙◌, ◌+◌, ◌<◌, ℕ, Bool, Bor, List, [], ◌∷◌, Option, None, Some, drop, false, get_or, length, refl, sym, true, true≢false}
use Rattle.std.proofs.lemmas.List.{at_drop_more}
use Rattle.std.specs.Prelude.{is_some}
use Rattle.clap.specs.Words.{Text}
use Rattle.command_line.specs.Marks.{first_marked, first_of_several, first_of_two, marked}
use Rattle.command_line.specs.Options.{marks_of, text_of}

abbrev pub Mark : Type 0
Mark = Bor Text × Bool

-- one of which it doesn't hold is passed over, and at the first of which it holds the search ends
pass : (text : Text) (holds : Bool) (rest : List (Text × Bool)) → holds ≡ false → first_marked ((text, holds) ∷ rest) ≡ first_marked rest
unfolding first_marked
pass text false rest off = refl
pass text true rest off = absurd (true≢false off)

stop : (text : Text) (holds : Bool) (rest : List (Text × Bool)) → holds ≡ true → first_marked ((text, holds) ∷ rest) ≡ Some text
unfolding first_marked
stop text true rest on = refl
stop text false rest on = absurd (true≢false (sym on))

pub passes : (marks : List Mark) (i : ℕ) (other : Mark) → i < length marks → (get_or marks i other).1 ≡ false → first_marked (marks_of (drop i marks)) ≡ first_marked (marks_of (drop (i + 1) marks))
passes marks i other within off = at_drop_more (λ (ms : List Mark). first_marked (marks_of ms)) marks i other within ∙ pass _ _ (marks_of (drop (i + 1) marks)) off

pub stops : (marks : List Mark) (i : ℕ) (other : Mark) → i < length marks → (get_or marks i other).1 ≡ true → first_marked (marks_of (drop i marks)) ≡ Some (get_or marks i other).0.now
stops marks i other within on = at_drop_more (λ (ms : List Mark). first_marked (marks_of ms)) marks i other within ∙ stop _ _ (marks_of (drop (i + 1) marks)) on

pub none_marked : None ≡ first_marked []
unfolding first_marked
none_marked = refl

-- the first of two, where the first of them may be found already
abbrev pub first_with : Option Text → List (Text × Bool) → Option Text
first_with None marks = first_of_several (marked marks)
first_with (Some one) marks = first_of_several (one ∷ marked marks)

pub begins : (marks : List (Text × Bool)) → first_with None marks ≡ first_of_two marks
unfolding first_of_two
begins marks = refl

pub ends : (first : Option Text) → first_with first [] ≡ None
ends None = refl
ends (Some one) = refl

without : (first : Option Text) (text : Text) (holds : Bool) (rest : List (Text × Bool)) → holds ≡ false → first_with first ((text, holds) ∷ rest) ≡ first_with first rest
without None text false rest off = refl
without (Some one) text false rest off = refl
without first text true rest off = absurd (true≢false off)

pub passes_over : (first : Option Text) (marks : List Mark) (i : ℕ) (other : Mark) → i < length marks → (get_or marks i other).1 ≡ false
    → first_with first (marks_of (drop i marks)) ≡ first_with first (marks_of (drop (i + 1) marks))
passes_over first marks i other within off =
    at_drop_more (λ (ms : List Mark). first_with first (marks_of ms)) marks i other within ∙ without first _ _ (marks_of (drop (i + 1) marks)) off

with_one : (first : Option Text) (text : Text) (holds : Bool) (rest : List (Text × Bool)) → is_some first ≡ false → holds ≡ true → first_with first ((text, holds) ∷ rest) ≡ first_with (Some text) rest
with_one None text true rest none on = refl
with_one None text false rest none on = absurd (true≢false (sym on))
with_one (Some one) text holds rest none on = absurd (true≢false none)

pub finds_one : (first : Option Text) (marks : List Mark) (i : ℕ) (other : Mark) → i < length marks → is_some first ≡ false → (get_or marks i other).1 ≡ true
    → first_with first (marks_of (drop i marks)) ≡ first_with (Some (get_or marks i other).0.now) (marks_of (drop (i + 1) marks))
finds_one first marks i other within none on =
    at_drop_more (λ (ms : List Mark). first_with first (marks_of ms)) marks i other within ∙ with_one first _ _ (marks_of (drop (i + 1) marks)) none on

with_other : (first : Option Text) (text : Text) (holds : Bool) (rest : List (Text × Bool)) → is_some first ≡ true → holds ≡ true → first_with first ((text, holds) ∷ rest) ≡ first
with_other None text holds rest some on = absurd (true≢false (sym some))
with_other (Some one) text true rest some on = refl
with_other (Some one) text false rest some on = absurd (true≢false (sym on))

pub finds_other : (first : Option Text) (marks : List Mark) (i : ℕ) (other : Mark) → i < length marks → is_some first ≡ true → (get_or marks i other).1 ≡ true → first_with first (marks_of (drop i marks)) ≡ first
finds_other first marks i other within some on =
    at_drop_more (λ (ms : List Mark). first_with first (marks_of ms)) marks i other within ∙ with_other first _ _ (marks_of (drop (i + 1) marks)) some on

pub same_there : (first : Option (Bor Text)) → is_some (text_of first) ≡ is_some first
same_there None = refl
same_there (Some one) = refl
