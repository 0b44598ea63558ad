-- Places of the requirements that pass tests.
use Rattle.std.proofs.Common.{◌≡◌, ◌∙◌, ◌⊎◌, ℕ, suc, ◌+◌, ◌-◌, ◌<◌, ◌≤◌, Bool, true, false, List, [], ◌∷◌, ◌++◌, Option, Some, None, filter, get_or, length, take, drop, arith, refl, ap, sym, subst, inl, inr, append-nil}
use Rattle.std.proofs.lemmas.Bool.{cases_Bool, eq-eqb, eqb-true, ne_eqb, le-ltb, lt-ltb}
use Rattle.std.proofs.lemmas.List.{length-take-le, take_all, take_more}
use Rattle.std.specs.List.{slice_get}
use Rattle.std.specs.Option.{option_map_or}
use Rattle.std.specs.Prelude.{◌==◌, nat_lt}
use Rattle.pep508.specs.Requirement.{RequirementParts}
use Rattle.problems.specs.Tied.ByExtra.{behind, is_last, least, lesser, places, put_last}

-- ---- places of what is put behind

pub places-append : (test : RequirementParts → Bool) (from : ℕ) (xs ys : List RequirementParts) → places test from (xs ++ ys) ≡ places test from xs ++ places test (from + length xs) ys
places-append test from [] ys = let e : from ≡ from + 0 = omega arith in ap (λ n. places test n ys) e
places-append test from (x ∷ xs) ys =
    let e : suc from + length xs ≡ from + length (x ∷ xs) = omega arith in
    let more : places test (suc from) (xs ++ ys) ≡ places test (suc from) xs ++ places test (from + length (x ∷ xs)) ys = places-append test (suc from) xs ys ∙ ap (λ n. places test (suc from) xs ++ places test n ys) e in
    elim (cases_Bool (test x)) [
      | inl passes ↦ rw passes (ap (λ ps. from ∷ ps) more)
      | inr fails ↦ rw fails more
    ]

places-next : (test : RequirementParts → Bool) (xs : List RequirementParts) (place : ℕ) (x : RequirementParts) → place < length xs → x ≡ get_or xs place x → places test 0 (take (place + 1) xs) ≡ places test 0 (take place xs) ++ places test place (x ∷ [])
places-next test xs place x within is =
    let count : 0 + length (take place xs) ≡ place = let k = length-take-le place xs (omega arith) in omega arith in
    ap (places test 0) (take_more xs place x within) ∙ places-append test 0 (take place xs) (get_or xs place x ∷ [])
    ∙ ap (λ y. places test 0 (take place xs) ++ places test (0 + length (take place xs)) (y ∷ [])) (sym is)
    ∙ ap (λ n. places test 0 (take place xs) ++ places test n (x ∷ [])) count

-- one more that passes
pub places-kept : (test : RequirementParts → Bool) (xs : List RequirementParts) (place : ℕ) (x : RequirementParts) → place < length xs → x ≡ get_or xs place x → test x ≡ true → places test 0 (take place xs) ++ place ∷ [] ≡ places test 0 (take (place + 1) xs)
places-kept test xs place x within is passes =
    let one : places test place (x ∷ []) ≡ place ∷ [] = rw passes refl in
    ap (λ ps. places test 0 (take place xs) ++ ps) (sym one) ∙ sym (places-next test xs place x within is)

-- one more that doesn't
pub places-skipped : (test : RequirementParts → Bool) (xs : List RequirementParts) (place : ℕ) (x : RequirementParts) → place < length xs → x ≡ get_or xs place x → test x ≡ false → places test 0 (take place xs) ≡ places test 0 (take (place + 1) xs)
places-skipped test xs place x within is fails =
    let none : places test place (x ∷ []) ≡ [] = rw fails refl in
    sym (places-next test xs place x within is ∙ ap (λ ps. places test 0 (take place xs) ++ ps) none ∙ append-nil (places test 0 (take place xs)))

pub places-all : (test : RequirementParts → Bool) (xs : List RequirementParts) (n : ℕ) → length xs ≤ n → places test 0 (take n xs) ≡ places test 0 xs
places-all test xs n past = ap (places test 0) (take_all n xs past)

-- ---- the last place

last-of : (listed : List ℕ) (place : ℕ) → slice_get (listed ++ place ∷ []) (length (listed ++ place ∷ []) - 1) ≡ Some place
last-of [] place = refl
last-of (p ∷ []) place = refl
last-of (p ∷ q ∷ listed) place =
    let k : slice_get (q ∷ listed ++ place ∷ []) (length (q ∷ listed ++ place ∷ []) - 1) ≡ Some place = last-of (q ∷ listed) place in
    let e : length (p ∷ q ∷ listed ++ place ∷ []) - 1 ≡ suc (length (q ∷ listed ++ place ∷ []) - 1) = omega arith in
    ap (slice_get (p ∷ q ∷ listed ++ place ∷ [])) e ∙ k

-- a place that was put at the end is there
pub put-again : (place : ℕ) (listed : List ℕ) → put_last place (put_last place listed) ≡ put_last place listed
put-again place listed = elim (cases_Bool (is_last place listed)) [
  | inl there ↦ rw (there, there) refl
  | inr apart ↦
      let now : is_last place (listed ++ place ∷ []) ≡ true = rw (last-of listed place) (eq-eqb place place refl) in
      rw (apart, now) refl
]

-- the last place of a list with this first one is the first, or the last of the others
last-first : (from bound : ℕ) (rest : List ℕ) (last : ℕ) → from < bound → (slice_get rest (length rest - 1) ≡ Some last → last < bound) → slice_get (from ∷ rest) (length (from ∷ rest) - 1) ≡ Some last → last < bound
last-first from bound [] last below others only = let k : from ≡ last = let e : Some from ≡ Some last = only in cc in omega arith
last-first from bound (p ∷ rest) last below others more =
    let e : length (from ∷ p ∷ rest) - 1 ≡ suc (length (p ∷ rest) - 1) = omega arith in
    others (sym (ap (slice_get (from ∷ p ∷ rest)) e) ∙ more)

-- places of what stands before are below
last-below : (test : RequirementParts → Bool) (from : ℕ) (xs : List RequirementParts) (last : ℕ) → slice_get (places test from xs) (length (places test from xs) - 1) ≡ Some last → last < from + length xs
last-below test from [] last is = absurd (let k : None ≡ Some last = is in cc)
last-below test from (x ∷ xs) last is =
    let others : slice_get (places test (suc from) xs) (length (places test (suc from) xs) - 1) ≡ Some last → last < from + length (x ∷ xs) = λ h. let k : last < suc from + length xs = last-below test (suc from) xs last h in omega arith in
    elim (cases_Bool (test x)) [
      | inl passes ↦ last-first from (from + length (x ∷ xs)) (places test (suc from) xs) last (omega arith) others (rw passes at is)
      | inr fails ↦ others (rw fails at is)
    ]

-- so the next place isn't there, and is put behind them
pub put-next : (test : RequirementParts → Bool) (xs : List RequirementParts) (place : ℕ) → place < length xs → put_last place (places test 0 (take place xs)) ≡ places test 0 (take place xs) ++ place ∷ []
put-next test xs place within = elim (cases_Bool (is_last place (places test 0 (take place xs)))) [
  | inl there ↦ absurd (found (slice_get (places test 0 (take place xs)) (length (places test 0 (take place xs)) - 1)) refl there)
  | inr apart ↦ rw apart refl
]
  where
    found : (o : Option ℕ) → slice_get (places test 0 (take place xs)) (length (places test 0 (take place xs)) - 1) ≡ o → option_map_or (λ last. last == place) o false ≡ true → ⊥
    found None is h = let k : false ≡ true = h in absurd cc
    found (Some last) is h =
        let same : last ≡ place = eqb-true last place h in
        let below : last < 0 + length (take place xs) = last-below test 0 (take place xs) last is in
        let count = length-take-le place xs (omega arith) in
        omega arith

-- ---- the lesser of two places, and what comes behind

-- the first place is none before the first requirement
head-above : (test : RequirementParts → Bool) (from : ℕ) (xs : List RequirementParts) → (slice_get (places test from xs) 0 ≡ None) ⊎ ((n : ℕ) × (slice_get (places test from xs) 0 ≡ Some n) × (from ≤ n))
head-above test from [] = inl refl
head-above test from (x ∷ xs) = elim (cases_Bool (test x)) [
  | inl passes ↦ inr (from, rw passes refl, omega arith)
  | inr fails ↦ elim (head-above test (suc from) xs) [
    | inl none ↦ inl (rw fails none)
    | inr some ↦ inr (some.0, rw fails some.1, let le = some.2 in omega arith)
  ]
]

-- behind a place before all, all are left
behind-before : (test : RequirementParts → Bool) (from : ℕ) (xs : List RequirementParts) (place : ℕ) → place < from → behind place (places test from xs) ≡ places test from xs
behind-before test from [] place below = refl
behind-before test from (x ∷ xs) place below = elim (cases_Bool (test x)) [
  | inl passes ↦ let apart : (from == place) ≡ false = ne_eqb from place (λ e. omega arith) in rw (passes, apart) refl
  | inr fails ↦ rw fails (behind-before test (suc from) xs place (omega arith))
]

lesser-left : (m : ℕ) (o : Option ℕ) → (o ≡ None) ⊎ ((n : ℕ) × (o ≡ Some n) × (m ≤ n)) → lesser (Some m) o ≡ Some m
lesser-left m o (inl none) = rw none refl
lesser-left m o (inr some) = let le = some.2 in let over : nat_lt some.0 m ≡ false = le-ltb some.0 m (omega arith) in rw (some.1, over) refl

lesser-right : (n : ℕ) (o : Option ℕ) → (o ≡ None) ⊎ ((m : ℕ) × (o ≡ Some m) × (suc n ≤ m)) → lesser o (Some n) ≡ Some n
lesser-right n o (inl none) = rw none refl
lesser-right n o (inr some) = let le = some.2 in let under : nat_lt n some.0 ≡ true = lt-ltb n some.0 (omega arith) in rw (some.1, under) refl

-- the requirement at the least place, and what is left behind it
pub record IsNextPlace (test bare naming : RequirementParts → Bool) (rest : List RequirementParts) (from place : ℕ) : Type 0 where
  pub skipped : ℕ
  pub is : place ≡ from + skipped
  pub item : RequirementParts
  pub here : slice_get rest skipped ≡ Some item
  pub bare_left : behind place (places bare from rest) ≡ places bare (suc place) (drop (suc skipped) rest)
  pub naming_left : behind place (places naming from rest) ≡ places naming (suc place) (drop (suc skipped) rest)
  pub passed : filter test rest ≡ filter test (item ∷ []) ++ filter test (drop (suc skipped) rest)

-- a requirement that neither is counted without an extra nor names the extra doesn't pass
abbrev pub IsCovered : (RequirementParts → Bool) → (RequirementParts → Bool) → (RequirementParts → Bool) → Type 0
IsCovered test bare naming = (wanted : RequirementParts) → bare wanted ≡ false → naming wanted ≡ false → test wanted ≡ false

-- it stands first
next-here : (test bare naming : RequirementParts → Bool) (x : RequirementParts) (xs : List RequirementParts) (from place : ℕ) → place ≡ from
    → behind from (places bare from (x ∷ xs)) ≡ places bare (suc from) xs → behind from (places naming from (x ∷ xs)) ≡ places naming (suc from) xs → IsNextPlace test bare naming (x ∷ xs) from place
next-here test bare naming x xs from place same left right = record {
  skipped = 0;
  is = let e : place ≡ from = same in omega arith;
  item = x;
  here = refl;
  bare_left = subst (λ n. behind n (places bare from (x ∷ xs)) ≡ places bare (suc n) xs) (sym same) left;
  naming_left = subst (λ n. behind n (places naming from (x ∷ xs)) ≡ places naming (suc n) xs) (sym same) right;
  passed = elim (cases_Bool (test x)) [ inl passes ↦ rw passes refl | inr fails ↦ rw fails refl ];
}

-- the first is skipped
next-skip : (test bare naming : RequirementParts → Bool) (x : RequirementParts) (xs : List RequirementParts) (from place : ℕ) → bare x ≡ false → naming x ≡ false → test x ≡ false → IsNextPlace test bare naming xs (suc from) place → IsNextPlace test bare naming (x ∷ xs) from place
next-skip test bare naming x xs from place left right fails k = record {
  skipped = suc k.skipped;
  is = let e = k.is in omega arith;
  item = k.item;
  here = k.here;
  bare_left = rw left k.bare_left;
  naming_left = rw right k.naming_left;
  passed = rw fails k.passed;
}

behind-first : (test : RequirementParts → Bool) (x : RequirementParts) (xs : List RequirementParts) (from : ℕ) → test x ≡ true → behind from (places test from (x ∷ xs)) ≡ places test (suc from) xs
behind-first test x xs from passes = rw (passes, eq-eqb from from refl) refl

behind-none : (test : RequirementParts → Bool) (x : RequirementParts) (xs : List RequirementParts) (from : ℕ) → test x ≡ false → behind from (places test from (x ∷ xs)) ≡ places test (suc from) xs
behind-none test x xs from fails = rw fails (behind-before test (suc from) xs from (omega arith))

behind-any : (test : RequirementParts → Bool) (x : RequirementParts) (xs : List RequirementParts) (from : ℕ) → behind from (places test from (x ∷ xs)) ≡ places test (suc from) xs
behind-any test x xs from = elim (cases_Bool (test x)) [
  | inl passes ↦ behind-first test x xs from passes
  | inr fails ↦ behind-none test x xs from fails
]

head-any : (test : RequirementParts → Bool) (x : RequirementParts) (xs : List RequirementParts) (from : ℕ) → (slice_get (places test from (x ∷ xs)) 0 ≡ None) ⊎ ((n : ℕ) × (slice_get (places test from (x ∷ xs)) 0 ≡ Some n) × (from ≤ n))
head-any test x xs from = head-above test from (x ∷ xs)

first-head : (test : RequirementParts → Bool) (x : RequirementParts) (xs : List RequirementParts) (from : ℕ) → test x ≡ true → slice_get (places test from (x ∷ xs)) 0 ≡ Some from
first-head test x xs from passes = rw passes refl

some-same : (m n : ℕ) → Some m ≡ Some n → m ≡ n
some-same m n e = cc

pub next-place : (test bare naming : RequirementParts → Bool) → IsCovered test bare naming → (rest : List RequirementParts) (from place : ℕ) → least (places bare from rest) (places naming from rest) ≡ Some place → IsNextPlace test bare naming rest from place
next-place test bare naming covered [] from place is = absurd (let k : None ≡ Some place = is in cc)
next-place test bare naming covered (x ∷ xs) from place is = elim (cases_Bool (bare x)) [
  | inl counts ↦
      let first : lesser (Some from) (slice_get (places naming from (x ∷ xs)) 0) ≡ Some place = rw (first-head bare x xs from counts) at is in
      let same : from ≡ place = some-same from place (sym (lesser-left from (slice_get (places naming from (x ∷ xs)) 0) (head-any naming x xs from)) ∙ first) in
      next-here test bare naming x xs from place (sym same) (behind-any bare x xs from) (behind-any naming x xs from)
  | inr none ↦ elim (cases_Bool (naming x)) [
    | inl names ↦
        let left : slice_get (places bare from (x ∷ xs)) 0 ≡ slice_get (places bare (suc from) xs) 0 = rw none refl in
        let first : lesser (slice_get (places bare (suc from) xs) 0) (Some from) ≡ Some place = rw (left, first-head naming x xs from names) at is in
        let same : from ≡ place = some-same from place (sym (lesser-right from (slice_get (places bare (suc from) xs) 0) (head-above bare (suc from) xs)) ∙ first) in
        next-here test bare naming x xs from place (sym same) (behind-any bare x xs from) (behind-any naming x xs from)
    | inr other ↦ next-skip test bare naming x xs from place none other (covered x none other) (next-place test bare naming covered xs (suc from) place (rw (none, other) at is))
  ]
]

-- where no place is left, none passes
pub none-passes : (test bare naming : RequirementParts → Bool) → IsCovered test bare naming → (rest : List RequirementParts) (from : ℕ) → least (places bare from rest) (places naming from rest) ≡ None → filter test rest ≡ []
none-passes test bare naming covered [] from is = refl
none-passes test bare naming covered (x ∷ xs) from is = elim (cases_Bool (bare x)) [
  | inl counts ↦
      let first : lesser (Some from) (slice_get (places naming from (x ∷ xs)) 0) ≡ None = rw (first-head bare x xs from counts) at is in
      absurd (let k : Some from ≡ None = sym (lesser-left from (slice_get (places naming from (x ∷ xs)) 0) (head-any naming x xs from)) ∙ first in cc)
  | inr none ↦ elim (cases_Bool (naming x)) [
    | inl names ↦
        let left : slice_get (places bare from (x ∷ xs)) 0 ≡ slice_get (places bare (suc from) xs) 0 = rw none refl in
        let first : lesser (slice_get (places bare (suc from) xs) 0) (Some from) ≡ None = rw (left, first-head naming x xs from names) at is in
        absurd (let k : Some from ≡ None = sym (lesser-right from (slice_get (places bare (suc from) xs) 0) (head-above bare (suc from) xs)) ∙ first in cc)
    | inr other ↦ rw (covered x none other) (none-passes test bare naming covered xs (suc from) (rw (none, other) at is))
  ]
]
