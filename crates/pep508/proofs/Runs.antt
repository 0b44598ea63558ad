-- Runs of bytes at the start and at the end of a text.
use Rattle.std.proofs.Common.{◌≡◌, ℕ, suc, ◌+◌, ◌-◌, ◌∙◌, Bool, true, false, List, [], ◌∷◌, ◌++◌, length, get_or, take, drop, reverse, refl, ap, sym, inl, inr, arith}
use Rattle.std.proofs.lemmas.Bool.{cases_Bool}
use Rattle.std.proofs.lemmas.List.{drop_at, get_or-reverse, length-append, length-reverse, reverse-append, reverse-reverse, take-append-drop, take_at}
use Rattle.std.proofs.lemmas.List.Folds.{list_all-append}
use Rattle.std.proofs.lemmas.List.Sums.{take_while-cons}
use Rattle.std.specs.Cmp.{first_so, second_so}
use Rattle.std.specs.List.{list_all, prefix_len, suffix_len, take_while}

-- the list is empty, or its first byte fails
abbrev pub Stops : (ℕ → Bool) → List ℕ → Type 0
Stops p [] = Unit {0}
Stops p (x ∷ xs) = p x ≡ false

-- the same, where a byte 0 fails too
pub stops_at : (p : ℕ → Bool) (xs : List ℕ) → p (get_or xs 0 0) ≡ false → Stops p xs
stops_at p [] stops = tt
stops_at p (x ∷ xs) stops = stops

pub stops_first : (p : ℕ → Bool) (xs : List ℕ) → p 0 ≡ false → Stops p xs → p (get_or xs 0 0) ≡ false
stops_first p [] zero_fails stops = zero_fails
stops_first p (x ∷ xs) zero_fails stops = stops

-- a run that what follows doesn't go on
pub run_front : (p : ℕ → Bool) (xs ys : List ℕ) → list_all p xs ≡ true → Stops p ys → prefix_len p (xs ++ ys) ≡ length xs
run_front p [] [] all stops = refl
run_front p [] (y ∷ ys) all stops = rw stops refl
run_front p (x ∷ xs) ys all stops =
    rw (first_so (p x) (list_all p xs) all) (omega (arith, run_front p xs ys (second_so (p x) (list_all p xs) all) stops))

pub front_is : (p : ℕ → Bool) (xs ys : List ℕ) → list_all p xs ≡ true → Stops p ys → take_while p (xs ++ ys) ≡ xs
front_is p xs ys all stops = take_at xs ys _ (sym (run_front p xs ys all stops))

pub behind_front : (p : ℕ → Bool) (xs ys : List ℕ) → list_all p xs ≡ true → Stops p ys → drop (prefix_len p (xs ++ ys)) (xs ++ ys) ≡ ys
behind_front p xs ys all stops = drop_at xs ys _ (sym (run_front p xs ys all stops))

-- the run passes, and what follows stops it
pub front_passes : (p : ℕ → Bool) (xs : List ℕ) → list_all p (take_while p xs) ≡ true
front_passes p [] = refl
front_passes p (x ∷ xs) = rw (take_while-cons p x xs) (elim (cases_Bool (p x)) [
  | inl pass ↦ rw (pass, pass) (front_passes p xs)
  | inr fail ↦ rw fail refl
])

pub front_stops : (p : ℕ → Bool) (xs : List ℕ) → Stops p (drop (prefix_len p xs) xs)
front_stops p [] = tt
front_stops p (x ∷ xs) = elim (cases_Bool (p x)) [
  | inl pass ↦ let more : 1 + prefix_len p xs ≡ suc (prefix_len p xs) = omega arith in rw (pass, more) (front_stops p xs)
  | inr fail ↦ rw (fail) fail
]

pub front_cut : (p : ℕ → Bool) (xs : List ℕ) → take_while p xs ++ drop (prefix_len p xs) xs ≡ xs
front_cut p xs = take-append-drop (prefix_len p xs) xs

-- a list that passes does so backwards
list_all-reverse : (p : ℕ → Bool) (xs : List ℕ) → list_all p xs ≡ true → list_all p (reverse xs) ≡ true
list_all-reverse p [] all = refl
list_all-reverse p (x ∷ xs) all =
    rw (reverse-append (x ∷ []) xs, list_all-append p (reverse xs) (x ∷ []), list_all-reverse p xs (second_so (p x) (list_all p xs) all), first_so (p x) (list_all p xs) all) refl

-- the last byte is the first backwards
last_first : (xs : List ℕ) → get_or (reverse xs) 0 0 ≡ get_or xs (length xs - 1) 0
last_first [] = refl
last_first (x ∷ xs) =
    let same : length (x ∷ xs) - 1 - 0 ≡ length (x ∷ xs) - 1 = omega arith in
    get_or-reverse (x ∷ xs) 0 0 (omega arith) ∙ ap (λ n. get_or (x ∷ xs) n 0) same

-- a run at the end that what stands before doesn't go on
pub run_end : (p : ℕ → Bool) (xs ys : List ℕ) → list_all p ys ≡ true → p (get_or xs (length xs - 1) 0) ≡ false → suffix_len p (xs ++ ys) ≡ length ys
run_end p xs ys all stops =
    rw (reverse-append xs ys) (run_front p (reverse ys) (reverse xs) (list_all-reverse p ys all) (stops_at p (reverse xs) (rw (last_first xs) stops)) ∙ length-reverse ys)

pub before_end : (p : ℕ → Bool) (xs ys : List ℕ) → list_all p ys ≡ true → p (get_or xs (length xs - 1) 0) ≡ false → take (length (xs ++ ys) - suffix_len p (xs ++ ys)) (xs ++ ys) ≡ xs
before_end p xs ys all stops =
    let n : length xs ≡ length (xs ++ ys) - suffix_len p (xs ++ ys) = omega (arith, length-append xs ys, run_end p xs ys all stops) in
    take_at xs ys _ n

pub end_is : (p : ℕ → Bool) (xs ys : List ℕ) → list_all p ys ≡ true → p (get_or xs (length xs - 1) 0) ≡ false → drop (length (xs ++ ys) - suffix_len p (xs ++ ys)) (xs ++ ys) ≡ ys
end_is p xs ys all stops =
    let n : length xs ≡ length (xs ++ ys) - suffix_len p (xs ++ ys) = omega (arith, length-append xs ys, run_end p xs ys all stops) in
    drop_at xs ys _ n

-- a text is what stands before the run at its end, and that run
pub record EndCut (p : ℕ → Bool) (text : List ℕ) : Type 0 where
  pub before : List ℕ
  pub run : List ℕ
  pub whole : before ++ run ≡ text
  pub before_is : take (length text - suffix_len p text) text ≡ before
  pub run_is : drop (length text - suffix_len p text) text ≡ run
  pub passes : list_all p run ≡ true
  pub stops : p (get_or before (length before - 1) 0) ≡ false

end_cut_at : (p : ℕ → Bool) (text before run : List ℕ) → before ++ run ≡ text → list_all p run ≡ true → p (get_or before (length before - 1) 0) ≡ false → EndCut p text
end_cut_at p text before run whole passes stops = record {
  before = before;
  run = run;
  whole = whole;
  before_is = rw (← whole) (before_end p before run passes stops);
  run_is = rw (← whole) (end_is p before run passes stops);
  passes = passes;
  stops = stops;
}

pub end_cut : (p : ℕ → Bool) (text : List ℕ) → p 0 ≡ false → EndCut p text
end_cut p text zero_fails =
    let back = reverse text in
    let before = reverse (drop (prefix_len p back) back) in
    let run = reverse (take_while p back) in
    let whole : before ++ run ≡ text =
    sym (reverse-append (take_while p back) (drop (prefix_len p back) back)) ∙ ap reverse (front_cut p back) ∙ reverse-reverse text in
    let passes = list_all-reverse p (take_while p back) (front_passes p back) in
    let stops : p (get_or before (length before - 1) 0) ≡ false =
    rw (← last_first before, reverse-reverse) (stops_first p (drop (prefix_len p back) back) zero_fails (front_stops p back)) in
    end_cut_at p text before run whole passes stops
