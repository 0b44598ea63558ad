-- A comment begins where it first may.
use Rattle.std.proofs.Common.{◌≡◌, ℕ, zero, suc, ◌<◌, ◌⊎◌, ◌∙◌, ◌&&◌, ◌==◌, Bool, true, false, List, [], ◌∷◌, length, slice_index, refl, sym, inl, inr, arith}
use Rattle.std.proofs.lemmas.Bool.{cases_Bool}
use Rattle.pep508.specs.Parts.{IsCommentPlace, comment_place, is_space_or_tab, opens_comment}

-- whether a comment may begin at the place of a text; before the text stands a start or not
abbrev opens : Bool → List ℕ → ℕ → Bool
opens at_start text zero = at_start && (slice_index text 0 == 35)
opens at_start text (suc k) = (slice_index text (suc k) == 35) && is_space_or_tab (slice_index text k)

turned : (one other : Bool) → (one && other) ≡ (other && one)
turned true true = refl
turned true false = refl
turned false true = refl
turned false false = refl

-- behind the first byte it may where it may in the rest
opens-more : (at_start : Bool) (b : ℕ) (rest : List ℕ) (k : ℕ) → opens at_start (b ∷ rest) (suc k) ≡ opens (is_space_or_tab b) rest k
opens-more at_start b rest zero = turned (slice_index rest 0 == 35) (is_space_or_tab b)
opens-more at_start b rest (suc k) = refl

opens-start : (text : List ℕ) (k : ℕ) → opens true text k ≡ opens_comment text k
opens-start text zero = refl
opens-start text (suc k) = refl

-- what is said of a place
record IsFirst (at_start : Bool) (text : List ℕ) (place : ℕ) : Type 0 where
  before : (k : ℕ) → k < place → opens at_start text k ≡ false
  here : (place ≡ length text) ⊎ ((place < length text) × (opens at_start text place ≡ true))

before-more : (at_start : Bool) (b : ℕ) (rest : List ℕ) (place : ℕ) → opens at_start (b ∷ rest) 0 ≡ false → IsFirst (is_space_or_tab b) rest place
    → (k : ℕ) → k < suc place → opens at_start (b ∷ rest) k ≡ false
before-more at_start b rest place none first zero below = none
before-more at_start b rest place none first (suc k) below = opens-more at_start b rest k ∙ first.before k (omega arith)

here-more : (at_start : Bool) (b : ℕ) (rest : List ℕ) (place : ℕ) → (place ≡ length rest) ⊎ ((place < length rest) × (opens (is_space_or_tab b) rest place ≡ true))
    → (suc place ≡ length (b ∷ rest)) ⊎ ((suc place < length (b ∷ rest)) × (opens at_start (b ∷ rest) (suc place) ≡ true))
here-more at_start b rest place (inl end) = inl (omega arith)
here-more at_start b rest place (inr found) = inr (omega (arith, found.0), opens-more at_start b rest place ∙ found.1)

first-place : (at_start : Bool) (text : List ℕ) → IsFirst at_start text (comment_place at_start text)
unfolding comment_place
first-place at_start [] = record { before = λ k below. absurd (omega arith); here = inl refl }
first-place at_start (b ∷ rest) = elim (cases_Bool (at_start && (b == 35))) [
  | inl now ↦ rw now (record { before = λ k below. absurd (omega arith); here = inr (omega arith, now) })
  | inr later ↦
      let next = first-place (is_space_or_tab b) rest in
      let place = comment_place (is_space_or_tab b) rest in
      let first : IsFirst at_start (b ∷ rest) (suc place) = record {
        before = before-more at_start b rest place later next;
        here = here-more at_start b rest place next.here;
      } in
      rw later first
]

pub is_place : (content : List ℕ) → IsCommentPlace content (comment_place true content)
is_place content =
    let first = first-place true content in
    record {
      before = λ k below. sym (opens-start content k) ∙ first.before k below;
      here = elim first.here [
        | inl end ↦ inl end
        | inr found ↦ inr (found.0, sym (opens-start content (comment_place true content)) ∙ found.1)
      ];
    }

-- there is one such place
not_before : (content : List ℕ) (one other : ℕ) → IsCommentPlace content one → IsCommentPlace content other → ¬ (one < other)
not_before content one other a b below = elim a.here [
  | inl end ↦ elim b.here [
    | inl same ↦ absurd (omega (arith, end, same, below))
    | inr found ↦ absurd (omega (arith, end, found.0, below))
  ]
  | inr found ↦ cc (b.before one below, found.1)
]

pub one_place : (content : List ℕ) (place : ℕ) → IsCommentPlace content place → comment_place true content ≡ place
one_place content place is =
    let early = not_before content (comment_place true content) place (is_place content) is in
    let late = not_before content place (comment_place true content) is (is_place content) in
    grind (arith, early, late)
