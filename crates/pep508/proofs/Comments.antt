-- Where a comment begins in a text that is made of others.
use Rattle.std.proofs.Common.{◌≡◌, ℕ, suc, ◌+◌, ◌-◌, ◌<◌, ◌≤◌, ◌&&◌, ◌==◌, not, Bool, true, false, eqb, List, [], ◌∷◌, ◌++◌, length, get_or, refl, ap, inl, inr, arith}
use Rattle.std.proofs.lemmas.Bool.{cases_Bool}
use Rattle.std.proofs.lemmas.List.{drop_at, length-append, length-drop, length-take}
use Rattle.std.specs.Cmp.{first_so, second_so}
use Rattle.std.specs.List.{list_all}
use Rattle.pep508.specs.Parts.{before_comment, comment_of, comment_place, is_space_or_tab}

-- whether no comment begins in a text, and whether one may begin behind it; before it one may where the first argument says so
abbrev pub clear : Bool → List ℕ → Bool
clear opens [] = true
clear opens (b ∷ bs) = not (opens && (b == 35)) && clear (is_space_or_tab b) bs

abbrev pub opens_behind : Bool → List ℕ → Bool
opens_behind opens [] = opens
opens_behind opens (b ∷ bs) = opens_behind (is_space_or_tab b) bs

not_true : (b : Bool) → not b ≡ true → b ≡ false
not_true true h = cc
not_true false h = refl

-- the comment of a whole lies behind a part without one
pub place_clear : (opens : Bool) (xs ys : List ℕ) → clear opens xs ≡ true → comment_place opens (xs ++ ys) ≡ length xs + comment_place (opens_behind opens xs) ys
unfolding comment_place
place_clear opens [] ys plain = omega arith
place_clear opens (b ∷ xs) ys plain =
    let here = not_true (opens && (b == 35)) (first_so (not (opens && (b == 35))) (clear (is_space_or_tab b) xs) plain) in
    let more = place_clear (is_space_or_tab b) xs ys (second_so (not (opens && (b == 35))) (clear (is_space_or_tab b) xs) plain) in
    rw here (omega (arith, more))

pub clear_place : (opens : Bool) (xs ys : List ℕ) → length xs ≤ comment_place opens (xs ++ ys) → clear opens xs ≡ true
unfolding comment_place
clear_place opens [] ys within = refl
clear_place opens (b ∷ xs) ys within = elim (cases_Bool (opens && (b == 35))) [
  | inl here ↦ absurd (let w = rw here at within in omega (arith, w))
  | inr other ↦
      let w = rw other at within in
      rw (other, clear_place (is_space_or_tab b) xs ys (omega (arith, w))) refl
]

-- parts
pub clear_append : (opens : Bool) (xs ys : List ℕ) → clear opens xs ≡ true → clear (opens_behind opens xs) ys ≡ true → clear opens (xs ++ ys) ≡ true
clear_append opens [] ys one other = other
clear_append opens (b ∷ xs) ys one other =
    rw (first_so (not (opens && (b == 35))) (clear (is_space_or_tab b) xs) one) (clear_append (is_space_or_tab b) xs ys (second_so (not (opens && (b == 35))) (clear (is_space_or_tab b) xs) one) other)

pub clear_parts : (opens : Bool) (xs ys : List ℕ) → clear opens (xs ++ ys) ≡ true → (clear opens xs ≡ true) × (clear (opens_behind opens xs) ys ≡ true)
clear_parts opens [] ys plain = (refl, plain)
clear_parts opens (b ∷ xs) ys plain =
    let more = clear_parts (is_space_or_tab b) xs ys (second_so (not (opens && (b == 35))) (clear (is_space_or_tab b) (xs ++ ys)) plain) in
    (rw (first_so (not (opens && (b == 35))) (clear (is_space_or_tab b) (xs ++ ys)) plain, more.0) refl, more.1)

pub opens_append : (opens : Bool) (xs ys : List ℕ) → opens_behind opens (xs ++ ys) ≡ opens_behind (opens_behind opens xs) ys
opens_append opens [] ys = refl
opens_append opens (b ∷ xs) ys = opens_append (is_space_or_tab b) xs ys

never : (opens : Bool) → (opens && false) ≡ false
never true = refl
never false = refl

-- without `#` no comment begins
pub clear_plain : (opens : Bool) (xs : List ℕ) → list_all (λ b. not (b == 35)) xs ≡ true → clear opens xs ≡ true
clear_plain opens [] all = refl
clear_plain opens (b ∷ xs) all =
    let other = not_true (b == 35) (first_so (not (b == 35)) (list_all (λ c. not (c == 35)) xs) all) in
    rw (other, never opens, clear_plain (is_space_or_tab b) xs (second_so (not (b == 35)) (list_all (λ c. not (c == 35)) xs) all)) refl

-- a text that doesn't begin with `#` doesn't mind what stands before it
pub clear_same : (one other : Bool) (xs : List ℕ) → eqb (get_or xs 0 0) 35 ≡ false → clear one xs ≡ true → clear other xs ≡ true
clear_same one other [] first plain = refl
clear_same one other (b ∷ xs) first plain = rw (first, never other) (second_so (not (one && (b == 35))) (clear (is_space_or_tab b) xs) plain)

pub opens_same : (one other : Bool) (xs : List ℕ) → 0 < length xs → opens_behind one xs ≡ opens_behind other xs
opens_same one other [] some = absurd (omega arith)
opens_same one other (b ∷ xs) some = refl

-- behind a text that ends with no space no comment begins
pub opens_last : (opens : Bool) (xs : List ℕ) → 0 < length xs → is_space_or_tab (get_or xs (length xs - 1) 0) ≡ false → opens_behind opens xs ≡ false
opens_last opens [] some last = absurd (omega arith)
opens_last opens (b ∷ []) some last = last
opens_last opens (b ∷ c ∷ xs) some last =
    let same : length (b ∷ c ∷ xs) - 1 ≡ suc (length (c ∷ xs) - 1) = omega arith in
    opens_last (is_space_or_tab b) (c ∷ xs) (omega arith) (rw same at last)

-- a comment that a content has begins behind its head
pub record Opens (head comment : List ℕ) : Type 0 where
  pub plain : clear true head ≡ true
  pub opens : comment_place (opens_behind true head) comment ≡ 0

pub opened : (head comment content : List ℕ) → head ++ comment ≡ content → comment ≡ comment_of content → before_comment content ≡ head → Opens head comment
unfolding comment_place
opened head [] content whole is before =
    let short : length head ≤ comment_place true content = omega (arith, ap length before, length-take (comment_place true content) content) in
    record { plain = clear_place true head [] (rw whole short); opens = refl }
opened head (c ∷ comment) content whole is before =
    let short : length head ≤ comment_place true content = omega (arith, ap length before, length-take (comment_place true content) content) in
    let plain = clear_place true head (c ∷ comment) (rw whole short) in
    let place : comment_place true content ≡ length head + comment_place (opens_behind true head) (c ∷ comment) = rw whole at (place_clear true head (c ∷ comment) plain) in
    record {
      plain = plain;
      opens = omega (arith, place, ap length is, length-drop (comment_place true content) content, ap length whole, length-append head (c ∷ comment));
    }

-- and of texts that are so the comment is that
pub comment_is : (head comment : List ℕ) → Opens head comment → comment_of (head ++ comment) ≡ comment
comment_is head comment o =
    let place : length head ≡ comment_place true (head ++ comment) = omega (arith, place_clear true head comment o.plain, o.opens) in
    drop_at head comment _ place
