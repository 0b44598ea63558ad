-- Facts on the numbers of a release as they are read.
use Rattle.std.proofs.Common.{◌≡◌, ℕ, ◌+◌, ◌-◌, ◌*◌, ◌^◌, ◌<◌, ◌≤◌, Bool, true, false, eqb, ltb, ◌&&◌, List, [], ◌∷◌, ◌++◌, length, get_or, drop, refl, sym, ap, ◌∙◌, arith, inl, inr, append_assoc}
use Rattle.std.specs.List.{list_all}
use Rattle.std.specs.Prelude.{Ok, Err}
use Rattle.std.proofs.lemmas.Bool.{cases_Bool, le-ltb, lt-ltb}
use Rattle.std.proofs.lemmas.List.{at_drop_more, drop_all}
use Rattle.pep440.specs.declared.fault.Fault.TheVariants.{NumberTooLarge}
use Rattle.pep440.specs.Tied.Reading.{fitting_numbers, numbers_from}

and-false : (b : Bool) → (b && false) ≡ false
and-false true = refl
and-false false = refl

-- ---- numbers that are read

abbrev pub all_fit : List ℕ → Bool
all_fit ns = list_all (λ n. ltb n (2 ^ 64)) ns

pub all_fit-append : (ms ns : List ℕ) → all_fit (ms ++ ns) ≡ (all_fit ms && all_fit ns)
all_fit-append [] ns = refl
all_fit-append (m ∷ ms) ns = rw (all_fit-append ms ns) (grouped (ltb m (2 ^ 64)) (all_fit ms) (all_fit ns))
  where
    grouped : (a b c : Bool) → (a && (b && c)) ≡ ((a && b) && c)
    grouped true b c = refl
    grouped false b c = refl

-- a number that is over the limit doesn't become smaller
numbers_from-large : (n : ℕ) (text : List ℕ) → 2 ^ 64 ≤ n → all_fit (numbers_from n text) ≡ false
numbers_from-large n [] h = rw (le-ltb n (2 ^ 64) h) refl
numbers_from-large n (b ∷ rest) h = elim (cases_Bool (eqb b 46)) [
  | inl dot ↦ rw (dot, le-ltb n (2 ^ 64) h) refl
  | inr other ↦ rw other (numbers_from-large (n * 10 + (b - 48)) rest (omega arith))
]

-- a digit that takes a number over the limit
pub release-large : (ms whole : List ℕ) (value i : ℕ) (text : List ℕ) → i < length text → eqb (get_or text i 0) 46 ≡ false
    → 2 ^ 64 ≤ value * 10 + (get_or text i 0 - 48) → ms ++ numbers_from value (drop i text) ≡ whole
    → fitting_numbers whole ≡ Err NumberTooLarge
release-large ms whole value i text within other large e =
    let step : numbers_from value (drop i text) ≡ numbers_from (value * 10 + (get_or text i 0 - 48)) (drop (i + 1) text) =
    at_drop_more (numbers_from value) text i 0 within ∙ rw other refl in
    let none : all_fit whole ≡ false = ap all_fit (sym e) ∙ all_fit-append ms (numbers_from value (drop i text)) ∙ rw (step, numbers_from-large _ (drop (i + 1) text) large) (and-false (all_fit ms)) in
    rw none refl

-- a `.` ends a number
pub release-dot : (ms whole : List ℕ) (value i : ℕ) (text : List ℕ) → i < length text → eqb (get_or text i 0) 46 ≡ true
    → ms ++ numbers_from value (drop i text) ≡ whole → (ms ++ value ∷ []) ++ numbers_from 0 (drop (i + 1) text) ≡ whole
release-dot ms whole value i text within dot e =
    let step : numbers_from value (drop i text) ≡ value ∷ numbers_from 0 (drop (i + 1) text) =
    at_drop_more (numbers_from value) text i 0 within ∙ rw dot refl in
    append_assoc ms (value ∷ []) (numbers_from 0 (drop (i + 1) text)) ∙ ap (λ t. ms ++ t) (sym step) ∙ e

-- a digit more
pub release-digit : (ms whole : List ℕ) (value i : ℕ) (text : List ℕ) → i < length text → eqb (get_or text i 0) 46 ≡ false
    → ms ++ numbers_from value (drop i text) ≡ whole → ms ++ numbers_from (value * 10 + (get_or text i 0 - 48)) (drop (i + 1) text) ≡ whole
release-digit ms whole value i text within other e =
    let step : numbers_from value (drop i text) ≡ numbers_from (value * 10 + (get_or text i 0 - 48)) (drop (i + 1) text) =
    at_drop_more (numbers_from value) text i 0 within ∙ rw other refl in
    ap (λ t. ms ++ t) (sym step) ∙ e

-- the numbers before a `.` fit where each does
pub fit-more : (ms : List ℕ) (value : ℕ) → value < 2 ^ 64 → all_fit ms ≡ true → all_fit (ms ++ value ∷ []) ≡ true
fit-more ms value small h = all_fit-append ms (value ∷ []) ∙ rw (h, lt-ltb value (2 ^ 64) small) refl

-- the end of the text ends the last number
pub release-end : (ms whole : List ℕ) (value i : ℕ) (text : List ℕ) → length text ≤ i → value < 2 ^ 64 → all_fit ms ≡ true
    → ms ++ numbers_from value (drop i text) ≡ whole → fitting_numbers whole ≡ Ok (ms ++ value ∷ [])
release-end ms whole value i text past small h e =
    let all : ms ++ value ∷ [] ≡ whole = ap (λ t. ms ++ numbers_from value t) (sym (drop_all i text past)) ∙ e in
    let fine : all_fit whole ≡ true = ap all_fit (sym all) ∙ fit-more ms value small h in
    rw fine (ap Ok (sym all))
