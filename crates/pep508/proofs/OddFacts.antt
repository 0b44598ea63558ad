-- Odd characters in a text that is made of others.
use Rattle.std.proofs.Common.{◌≡◌, ℕ, suc, ◌-◌, ◌<◌, ◌∙◌, ◌&&◌, ◌||◌, ◌⊎◌, not, Bool, true, false, eqb, ltb, List, [], ◌∷◌, ◌++◌, length, get_or, refl, sym, inl, inr, arith}
use Rattle.std.proofs.lemmas.Bool.{cases_Bool, eqb-true}
use Rattle.std.proofs.lemmas.Bool.Decides.{nat_tests}
use Rattle.std.specs.Cmp.{first_so, second_so}
use Rattle.std.specs.List.{list_all}
use Rattle.pep508.specs.Parts.{IsEnding, ending_of, has_odd, is_control, is_odd}
use Rattle.pep508.proofs.Endings.{plain-at}

false_or : (a b : Bool) → (a || b) ≡ false → (a ≡ false) × (b ≡ false)
false_or true b h = cc
false_or false b h = (refl, h)

-- ASCII characters are odd by themselves
is_odd_ascii : (b : ℕ) (rest : List ℕ) → b < 128 → is_odd b rest ≡ is_control b
is_odd_ascii b rest ascii = grind (arith, nat_tests)

is_odd_next : (b c : ℕ) (rest : List ℕ) → c < 128 → is_odd b (c ∷ rest) ≡ is_control b
is_odd_next b c rest ascii = grind (arith, nat_tests)

-- a text that ends in ASCII has its odd characters within it
is_odd_append : (b : ℕ) (rest ys : List ℕ) → get_or (b ∷ rest) (length (b ∷ rest) - 1) 0 < 128 → is_odd b (rest ++ ys) ≡ is_odd b rest
is_odd_append b [] ys last = is_odd_ascii b ys last ∙ sym (is_odd_ascii b [] last)
is_odd_append b (c ∷ []) ys last = is_odd_next b c ys last ∙ sym (is_odd_next b c [] last)
is_odd_append b (c ∷ d ∷ rest) ys last = refl

last_inner : (b c : ℕ) (rest : List ℕ) → get_or (b ∷ c ∷ rest) (length (b ∷ c ∷ rest) - 1) 0 ≡ get_or (c ∷ rest) (length (c ∷ rest) - 1) 0
last_inner b c rest = let same : length (b ∷ c ∷ rest) - 1 ≡ suc (length (c ∷ rest) - 1) = omega arith in rw same refl

pub odd_append : (xs ys : List ℕ) → get_or xs (length xs - 1) 0 < 128 → has_odd xs ≡ false → has_odd ys ≡ false → has_odd (xs ++ ys) ≡ false
unfolding has_odd
odd_append [] ys last one other = other
odd_append (b ∷ []) ys last one other =
    let h = false_or (is_odd b []) false one in
    rw (is_odd_append b [] ys last, h.0) other
odd_append (b ∷ c ∷ xs) ys last one other =
    let h = false_or (is_odd b (c ∷ xs)) (has_odd (c ∷ xs)) one in
    rw (is_odd_append b (c ∷ xs) ys last, h.0) (odd_append (c ∷ xs) ys (rw (last_inner b c xs) at last) h.1 other)

pub odd_front : (xs ys : List ℕ) → get_or xs (length xs - 1) 0 < 128 → has_odd (xs ++ ys) ≡ false → has_odd xs ≡ false
unfolding has_odd
odd_front [] ys last plain = refl
odd_front (b ∷ []) ys last plain =
    let h = false_or (is_odd b ys) (has_odd ys) plain in
    rw (sym (is_odd_append b [] ys last) ∙ h.0) refl
odd_front (b ∷ c ∷ xs) ys last plain =
    let h = false_or (is_odd b ((c ∷ xs) ++ ys)) (has_odd ((c ∷ xs) ++ ys)) plain in
    rw (sym (is_odd_append b (c ∷ xs) ys last) ∙ h.0) (odd_front (c ∷ xs) ys (rw (last_inner b c xs) at last) h.1)

pub odd_behind : (xs ys : List ℕ) → has_odd (xs ++ ys) ≡ false → has_odd ys ≡ false
unfolding has_odd
odd_behind [] ys plain = plain
odd_behind (b ∷ xs) ys plain = odd_behind xs ys (false_or (is_odd b (xs ++ ys)) (has_odd (xs ++ ys)) plain).1

-- ASCII without control characters
abbrev pub is_plain : ℕ → Bool
is_plain b = ltb b 128 && not (is_control b)

plain_not_odd : (b : ℕ) (rest : List ℕ) → is_plain b ≡ true → is_odd b rest ≡ false
plain_not_odd b rest plain = grind (arith, nat_tests)

pub odd_plain : (xs : List ℕ) → list_all is_plain xs ≡ true → has_odd xs ≡ false
unfolding has_odd
odd_plain [] all = refl
odd_plain (b ∷ xs) all =
    rw (plain_not_odd b xs (first_so (is_plain b) (list_all is_plain xs) all)) (odd_plain xs (second_so (is_plain b) (list_all is_plain xs) all))

-- ---- endings

-- a line ends in one of three ways
pub ending_cases : (line : List ℕ) → (ending_of line ≡ []) ⊎ IsEnding (ending_of line)
ending_cases line = elim (cases_Bool (eqb (get_or line (length line - 1) 0) 10)) [
  | inl lf ↦ elim (cases_Bool (eqb (get_or line (length line - 2) 0) 13)) [
    | inl cr ↦ rw (lf, cr) (inr (inr refl))
    | inr bare ↦ rw (lf, bare) (inr (inl refl))
  ]
  | inr none ↦ rw none (inl refl)
]

-- a content without odd characters has no ending of its own
pub ending_none : (content : List ℕ) → has_odd content ≡ false → ending_of content ≡ []
ending_none [] plain = refl
ending_none (b ∷ rest) plain = elim (cases_Bool (eqb (get_or (b ∷ rest) (length (b ∷ rest) - 1) 0) 10)) [
  | inl lf ↦ absurd (let control = plain-at (b ∷ rest) (length (b ∷ rest) - 1) (omega arith) plain in let is = rw (eqb-true _ _ lf) at control in cc)
  | inr none ↦ rw none refl
]
