-- Lemmas on the words of a line.
use Rattle.std.proofs.Common.{◌≡◌, ◌∙◌, ℕ, suc, ◌+◌, length-drop, ◌<◌, ◌≤◌, ◌==◌, not, Bool, true, false, List, [], ◌∷◌, length, take, drop, filter, refl, sym, ap, arith, Option, Some, inl, inr}
use Rattle.std.specs.Prelude.{cond}
use Rattle.std.specs.List.{position_or_len, prefix_len, slice_split}
use Rattle.std.proofs.lemmas.Bool.{cases_Bool, cases_lt}
use Rattle.std.proofs.lemmas.Bool.Decides.{nat_tests}
use Rattle.std.proofs.lemmas.List.Sums.{passes_at_first, prefix_len-le-length}
use Rattle.std.specs.Str.{IsCharBoundary, IsUtf8, is_utf8}
use Rattle.std.proofs.lemmas.Str.{IsCharBoundary-before_ascii, IsCharBoundary-end, IsUtf8-from_is_utf8, is_utf8-from_IsUtf8}
use Rattle.lists.specs.Spaces.{is_space_or_tab, trim_start}
use Rattle.lists.proofs.SpaceBytes.{is_space_or_tab-ascii}
use Rattle.commands.specs.declared.batch_line.Item.{Item}
use Rattle.commands.specs.declared.batch_line.Item.TheVariants.{BadCommand}
use Rattle.commands.specs.BatchLine.{item_in, item_in_text, behind_word, command_of, first_word, from_first, words_of}

-- a text that is UTF-8 is read, and another is a bad command
pub item_of_utf8 : (text : List ℕ) → IsUtf8 text → item_in_text text ≡ item_in (trim_start text)
item_of_utf8 text utf8 = rw (is_utf8-from_IsUtf8 text utf8) refl

bad_cases : (b : Bool) (item : Option Item) → (b ≡ true → ⊥) → cond b item (Some BadCommand) ≡ Some BadCommand
bad_cases true item other = absurd (other refl)
bad_cases false item other = refl

pub item_of_other : (text : List ℕ) → (IsUtf8 text → ⊥) → item_in_text text ≡ Some BadCommand
item_of_other text other = bad_cases (is_utf8 text) (item_in (trim_start text)) (λ is. other (IsUtf8-from_is_utf8 text is))

-- a text that isn't blank asks for its command
pub item_of_some : (text : List ℕ) → 0 < length text → item_in text ≡ Some (command_of (first_word text) (behind_word text))
item_of_some [] some = absurd (omega arith)
item_of_some (b ∷ rest) some = refl

-- a text may be cut at its first space
pub word-cut : (text : List ℕ) → IsCharBoundary text (position_or_len is_space_or_tab text)
word-cut text = elim (cases_lt (position_or_len is_space_or_tab text) (length text)) [
  | inl within ↦ IsCharBoundary-before_ascii text (position_or_len is_space_or_tab text) within (is_space_or_tab-ascii _ (passes_at_first is_space_or_tab text 0 within))
  | inr end ↦
      let same : position_or_len is_space_or_tab text ≡ length text = omega (arith, prefix_len-le-length (λ b. not (is_space_or_tab b)) text) in
      rw same (IsCharBoundary-end text)
]

one-more : (n : ℕ) → 1 + n ≡ suc n
one-more n = omega arith

-- a space or a tab that leads a text is trimmed
trim-more : (b : ℕ) (rest : List ℕ) → is_space_or_tab b ≡ true → trim_start (b ∷ rest) ≡ trim_start rest
trim-more b rest space = rw (space, one-more (prefix_len is_space_or_tab rest)) refl

-- where another byte leads a text, nothing is
trim-here : (b : ℕ) (rest : List ℕ) → is_space_or_tab b ≡ false → trim_start (b ∷ rest) ≡ b ∷ rest
trim-here b rest other = rw other refl

-- spaces that lead a text are no words
pub words_of-trimmed : (text : List ℕ) → words_of (trim_start text) ≡ words_of text
words_of-trimmed [] = refl
words_of-trimmed (b ∷ rest) = elim (cases_Bool (is_space_or_tab b)) [
  | inl space ↦ ap words_of (trim-more b rest space) ∙ words_of-trimmed rest ∙ rw space refl
  | inr other ↦ ap words_of (trim-here b rest other)
]

-- behind no word, and behind one more byte of a word
behind-none : (b : ℕ) (rest : List ℕ) → is_space_or_tab b ≡ true → behind_word (b ∷ rest) ≡ trim_start rest
behind-none b rest space =
    let whole : from_first is_space_or_tab (b ∷ rest) ≡ b ∷ rest = rw space refl in
    ap trim_start whole ∙ trim-more b rest space

behind-more : (b : ℕ) (rest : List ℕ) → is_space_or_tab b ≡ false → behind_word (b ∷ rest) ≡ behind_word rest
behind-more b rest other =
    let more : from_first is_space_or_tab (b ∷ rest) ≡ from_first is_space_or_tab rest = rw (other, one-more (position_or_len is_space_or_tab rest)) refl in
    ap trim_start more

-- what is split off first, and the words behind it
record IsSplit (text : List ℕ) : Type 0 where
  parts : List (List ℕ)
  is : slice_split is_space_or_tab text ≡ first_word text ∷ parts
  words : filter (λ word. not (length word == 0)) parts ≡ words_of (behind_word text)

is_split : (text : List ℕ) → IsSplit text
is_split [] = record { parts = []; is = refl; words = refl }
is_split (b ∷ rest) = elim (cases_Bool (is_space_or_tab b)) [
  | inl space ↦ record {
    parts = slice_split is_space_or_tab rest;
    is = rw space refl;
    words = sym (ap words_of (behind-none b rest space) ∙ words_of-trimmed rest);
  }
  | inr other ↦
      let more = is_split rest in
      record {
        parts = more.parts;
        is = rw (other, more.is, one-more (position_or_len is_space_or_tab rest)) refl;
        words = more.words ∙ ap words_of (sym (behind-more b rest other));
      }
]

-- a text is no longer without the spaces that lead it
trimmed-shorter : (text : List ℕ) → length (trim_start text) ≤ length text
trimmed-shorter text = rw (length-drop (prefix_len is_space_or_tab text) text) (omega arith)

-- no space leads a text that was trimmed
no-space : (b : ℕ) (rest : List ℕ) → trim_start (b ∷ rest) ≡ b ∷ rest → is_space_or_tab b ≡ false
no-space b rest none = elim (cases_Bool (is_space_or_tab b)) [
  | inl space ↦
      let same : trim_start rest ≡ b ∷ rest = sym (trim-more b rest space) ∙ none in
      absurd (omega (arith, trimmed-shorter rest, ap length same))
  | inr other ↦ other
]

-- what was trimmed has nothing to trim
pub trimmed-again : (text : List ℕ) → trim_start (trim_start text) ≡ trim_start text
trimmed-again [] = refl
trimmed-again (b ∷ rest) = elim (cases_Bool (is_space_or_tab b)) [
  | inl space ↦ ap trim_start (trim-more b rest space) ∙ trimmed-again rest ∙ sym (trim-more b rest space)
  | inr other ↦ ap trim_start (trim-here b rest other)
]

-- the first word of a text that no space leads, and then the others
first-with : (b : ℕ) (rest : List ℕ) → is_space_or_tab b ≡ false → words_of (b ∷ rest) ≡ first_word (b ∷ rest) ∷ words_of (behind_word (b ∷ rest))
first-with b rest other =
    let s = is_split (b ∷ rest) in
    let word : first_word (b ∷ rest) ≡ b ∷ take (position_or_len is_space_or_tab rest) rest = rw (other, one-more (position_or_len is_space_or_tab rest)) refl in
    let some : (length (first_word (b ∷ rest)) == 0) ≡ false = rw word (grind (arith, nat_tests)) in
    ap (filter (λ w. not (length w == 0))) s.is ∙ rw some (ap (λ (ws : List (List ℕ)). first_word (b ∷ rest) ∷ ws) s.words)

pub words_of-first : (text : List ℕ) → 0 < length text → trim_start text ≡ text → words_of text ≡ first_word text ∷ words_of (behind_word text)
words_of-first [] some none = absurd (omega arith)
words_of-first (b ∷ rest) some none = first-with b rest (no-space b rest none)

-- what stands behind the first word is shorter
pub behind-shorter : (text : List ℕ) → 0 < length text → trim_start text ≡ text → length (behind_word text) < length text
behind-shorter [] some none = absurd (omega arith)
behind-shorter (b ∷ rest) some none =
    let k = position_or_len is_space_or_tab rest in
    let behind : behind_word (b ∷ rest) ≡ trim_start (drop k rest) = behind-more b rest (no-space b rest none) in
    rw behind (omega (arith, trimmed-shorter (drop k rest), length-drop k rest))

-- a text that isn't empty has a byte
pub some-bytes : (text : List ℕ) → (length text == 0) ≡ false → 0 < length text
some-bytes [] some = cc some
some-bytes (b ∷ rest) some = omega arith
