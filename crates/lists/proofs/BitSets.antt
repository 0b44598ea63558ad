-- Sets of numbers, by the bits of words.
use Rattle.std.proofs.Common.{◌≡◌, ◌≢◌, ◌<◌, ◌≤◌, ℕ, zero, suc, Bool, true, false, List, [], ◌∷◌, ◌++◌, ◌+◌, ◌-◌, ◌*◌, ◌/◌, ◌%◌, ◌^◌, Contains, length, get_or, set, filter, refl, sym, ap, ◌∙◌, subst, inl, inr, arith, eqb-true, eq-eqb, w64, append-nil, length-append}
use Rattle.std.proofs.lemmas.Bool.{cases_eq, cases_lt}
use Rattle.std.proofs.lemmas.List.{get_or_past, get_or-set_same, get_or-set_other, get_or_append_left, get_or_push}
use Rattle.std.proofs.lemmas.List.Elements.{Contains-append_left, Contains-append_right, filter-append}
use Rattle.std.proofs.lemmas.Nat.{shr-shr, shr_le, and_le_l}
use Rattle.std.proofs.lemmas.Nat.Bits.{bit_at_or, bit_at_and, bit_at-zero, bit_at_not, bit_at-lt, bit_at_above, bit_at-trailing_zeros, bit_at_set_same, bit_at_set_other, bit_at_clear_same, bit_at_clear_other}
use Rattle.std.specs.Int.{bit_at, bit_not, trailing_zeros}
use Rattle.std.specs.Prelude.{bit_and, bit_or}
use Rattle.lists.proofs.Members.{Contains-here, Contains-nil, Contains-cons_cases, Contains-filter, Contains-filter_of}
use Rattle.lists.specs.Bits.{has_bit, numbers_below, places_of, IsJoined, IsCommon, IsDifference, LiesWithin, NoneFrom, IsLeastFrom}

pub Contains-one : (n m : ℕ) → Contains (n ∷ []) m → m ≡ n
Contains-one n m h = elim (Contains-cons_cases n [] m h) [ inl e ↦ sym e | inr r ↦ absurd (Contains-nil m r) ]

numbers-below : (bound n : ℕ) → n < bound → Contains (numbers_below bound) n
numbers-below zero n l = absurd (omega arith)
numbers-below (suc bound) n l = elim (cases_lt n bound) [
  | inl low ↦ Contains-append_left (numbers_below bound) (bound ∷ []) n (numbers-below bound n low)
  | inr high ↦ let e : bound ≡ n = omega arith in Contains-append_right (numbers_below bound) (bound ∷ []) n (subst (λ x. Contains (bound ∷ []) x) e (Contains-here bound []))
]

-- the bit of a place, as a number
abbrev pub bit_of : List ℕ → ℕ → ℕ
bit_of words n = bit_at (get_or words (n / 64) 0) (n % 64)

bit-within : (words : List ℕ) (n : ℕ) → bit_of words n ≡ 1 → n < 64 * length words
bit-within words n h = elim (cases_lt (n / 64) (length words)) [
  | inl low ↦ omega arith
  | inr high ↦ absurd (let e : bit_of words n ≡ bit_at 0 (n % 64) = ap (λ w. bit_at w (n % 64)) (get_or_past words (n / 64) 0 high) in let z = bit_at-zero (n % 64) in omega arith)
]

pub has-there : (words : List ℕ) (n : ℕ) → bit_of words n ≡ 1 → Contains (places_of words) n
has-there words n h = Contains-filter_of (has_bit words) (numbers_below (64 * length words)) n (numbers-below (64 * length words) n (bit-within words n h)) (eq-eqb _ 1 h)

pub there-has : (words : List ℕ) (n : ℕ) → Contains (places_of words) n → bit_of words n ≡ 1
there-has words n h = eqb-true _ 1 (Contains-filter (has_bit words) (numbers_below (64 * length words)) n h).1

-- words of one length or another with the same bits
abbrev pub AreAlike : List ℕ → List ℕ → Type 0
AreAlike one other = (k : ℕ) → get_or one k 0 ≡ get_or other k 0

pub alike-push : (words : List ℕ) → AreAlike (words ++ 0 ∷ []) words
alike-push words k = elim (cases_lt k (length words)) [
  | inl low ↦ get_or_append_left words (0 ∷ []) 0 k low
  | inr high ↦ elim (cases_eq (length words) k) [
    | inl e ↦ get_or_push words 0 0 k e ∙ sym (get_or_past words k 0 high)
    | inr d ↦ get_or_past (words ++ 0 ∷ []) k 0 (let l = length-append words (0 ∷ []) in omega arith) ∙ sym (get_or_past words k 0 high)
  ]
]

-- sets, from words in step
pub joined : (new one other : List ℕ) → ((k : ℕ) → get_or new k 0 ≡ bit_or (get_or one k 0) (get_or other k 0)) → IsJoined (places_of new) (places_of one) (places_of other)
joined new one other each n =
    let e : bit_of new n ≡ bit_at (bit_or (get_or one (n / 64) 0) (get_or other (n / 64) 0)) (n % 64) = ap (λ w. bit_at w (n % 64)) (each (n / 64)) in
    let m = bit_at_or (get_or one (n / 64) 0) (get_or other (n / 64) 0) (n % 64) in
    let a = bit_at-lt (get_or one (n / 64) 0) (n % 64) in
    let b = bit_at-lt (get_or other (n / 64) 0) (n % 64) in (
      λ h. let i = there-has new n h in elim (cases_eq (bit_of one n) 1) [
        | inl y ↦ inl (has-there one n y)
        | inr d ↦ inr (has-there other n (omega arith))
      ],
      λ h. has-there new n (elim h [ inl y ↦ (let i = there-has one n y in omega arith) | inr z ↦ (let i = there-has other n z in omega arith) ]),
    )

pub common : (new one other : List ℕ) → ((k : ℕ) → get_or new k 0 ≡ bit_and (get_or one k 0) (get_or other k 0)) → IsCommon (places_of new) (places_of one) (places_of other)
common new one other each n =
    let e : bit_of new n ≡ bit_at (bit_and (get_or one (n / 64) 0) (get_or other (n / 64) 0)) (n % 64) = ap (λ w. bit_at w (n % 64)) (each (n / 64)) in
    let m = bit_at_and (get_or one (n / 64) 0) (get_or other (n / 64) 0) (n % 64) in
    let a = bit_at-lt (get_or one (n / 64) 0) (n % 64) in
    let b = bit_at-lt (get_or other (n / 64) 0) (n % 64) in (
      λ h. let i = there-has new n h in (has-there one n (omega arith), has-there other n (omega arith)),
      λ h. has-there new n (let i = there-has one n h.0 in let j = there-has other n h.1 in omega arith),
    )

-- the words, as far as the other list reaches, are words of 64 bits
abbrev pub AreWords : List ℕ → List ℕ → Type 0
AreWords words other = (k : ℕ) → k < length other → get_or words k 0 < 2 ^ 64

pub difference : (new one other : List ℕ) → AreWords other one → ((k : ℕ) → get_or new k 0 ≡ bit_and (get_or one k 0) (bit_not w64 (get_or other k 0))) → IsDifference (places_of new) (places_of one) (places_of other)
difference new one other small each n =
    let e : bit_of new n ≡ bit_at (bit_and (get_or one (n / 64) 0) (bit_not w64 (get_or other (n / 64) 0))) (n % 64) = ap (λ w. bit_at w (n % 64)) (each (n / 64)) in
    let m = bit_at_and (get_or one (n / 64) 0) (bit_not w64 (get_or other (n / 64) 0)) (n % 64) in
    let a = bit_at-lt (get_or one (n / 64) 0) (n % 64) in
    let b = bit_at-lt (get_or other (n / 64) 0) (n % 64) in (
      λ h.
          let i = there-has new n h in
          let o : bit_of one n ≡ 1 = omega arith in
          let w = bit-within one n o in
          let z = bit_at_not w64 (get_or other (n / 64) 0) (n % 64) (small (n / 64) (omega arith)) (omega arith) in
          (has-there one n o, λ k. let j = there-has other n k in omega arith),
      λ h. has-there new n (
          let i = there-has one n h.0 in
          let w = bit-within one n i in
          let z = bit_at_not w64 (get_or other (n / 64) 0) (n % 64) (small (n / 64) (omega arith)) (omega arith) in
          elim (cases_eq (bit_of other n) 1) [ inl y ↦ absurd (h.1 (has-there other n y)) | inr d ↦ omega arith ]),
    )

-- one bit more, or less
module _ (words : List ℕ) (place x d : ℕ) where
  set-bit : x ≡ get_or words (place / 64) 0 → place / 64 < length words → (y : ℕ) → (n : ℕ) → n / 64 ≡ place / 64 → bit_of (set words (place / 64) y) n ≡ bit_at y (n % 64)
  set-bit is within y n same = ap (λ w. bit_at w (n % 64)) (ap (λ k. get_or (set words (place / 64) y) k 0) same ∙ get_or-set_same words (place / 64) y 0 within)

  set-other : (y n : ℕ) → n / 64 ≢ place / 64 → bit_of (set words (place / 64) y) n ≡ bit_of words n
  set-other y n differ = ap (λ w. bit_at w (n % 64)) (get_or-set_other words (place / 64) (n / 64) y 0 differ)

place-is : (n place : ℕ) → n / 64 ≡ place / 64 → n % 64 ≡ place % 64 → n ≡ place
place-is n place a b = omega arith

pub inserted : (old words : List ℕ) (place x : ℕ) → AreAlike words old → x ≡ get_or words (place / 64) 0 → place / 64 < length words → IsJoined (places_of (set words (place / 64) (bit_or x (1 * 2 ^ (place % 64) % 2 ^ 64)))) (places_of old) (place ∷ [])
inserted old words place x alike is within n =
    let y : ℕ = bit_or x (1 * 2 ^ (place % 64) % 2 ^ 64) in
    let new : List ℕ = set words (place / 64) y in
    let small : place % 64 < 64 = omega arith in
    let was : bit_of words n ≡ bit_of old n = ap (λ w. bit_at w (n % 64)) (alike (n / 64)) in
    elim (cases_eq (n / 64) (place / 64)) [
      | inr differ ↦ let o = set-other words place x 0 y n differ in (
        λ h. let i = there-has new n h in inl (has-there old n (omega arith)),
        λ h. has-there new n (elim h [
          | inl a ↦ (let i = there-has old n a in omega arith)
          | inr b ↦ absurd (differ (ap (λ z. z / 64) (Contains-one place n b)))
        ]),
      )
      | inl same ↦
          let at = set-bit words place x 0 is within y n same in
          let word : x ≡ get_or words (n / 64) 0 = is ∙ ap (λ k. get_or words k 0) (sym same) in
          elim (cases_eq (n % 64) (place % 64)) [
            | inl low ↦ let k = place-is n place same low in let s = bit_at_set_same w64 x (place % 64) small in (
              λ h. inr (subst (λ z. Contains (place ∷ []) z) (sym k) (Contains-here place [])),
              λ h. has-there new n (at ∙ ap (bit_at y) low ∙ s),
            )
            | inr other ↦ let s = bit_at_set_other w64 x (place % 64) small (n % 64) other in let v : bit_at x (n % 64) ≡ bit_of words n = ap (λ w. bit_at w (n % 64)) word in (
              λ h. let i = there-has new n h in inl (has-there old n (sym was ∙ sym v ∙ sym s ∙ sym at ∙ i)),
              λ h. has-there new n (elim h [
                | inl a ↦ at ∙ s ∙ v ∙ was ∙ there-has old n a
                | inr b ↦ absurd (other (ap (λ z. z % 64) (Contains-one place n b)))
              ]),
            )
          ]
    ]

pub removed : (words : List ℕ) (place x : ℕ) → x ≡ get_or words (place / 64) 0 → place / 64 < length words → IsDifference (places_of (set words (place / 64) (bit_and x (bit_not w64 (1 * 2 ^ (place % 64) % 2 ^ 64))))) (places_of words) (place ∷ [])
removed words place x is within n =
    let y : ℕ = bit_and x (bit_not w64 (1 * 2 ^ (place % 64) % 2 ^ 64)) in
    let new : List ℕ = set words (place / 64) y in
    let small : place % 64 < 64 = omega arith in
    elim (cases_eq (n / 64) (place / 64)) [
      | inr differ ↦ let o = set-other words place x 0 y n differ in (
        λ h. let i = there-has new n h in (has-there words n (omega arith), λ b. differ (ap (λ z. z / 64) (Contains-one place n b))),
        λ h. has-there new n (let i = there-has words n h.0 in omega arith),
      )
      | inl same ↦
          let at = set-bit words place x 0 is within y n same in
          let word : x ≡ get_or words (n / 64) 0 = is ∙ ap (λ k. get_or words k 0) (sym same) in
          elim (cases_eq (n % 64) (place % 64)) [
            | inl low ↦ let k = place-is n place same low in let s = bit_at_clear_same w64 x (place % 64) small in (
              λ h. absurd (let i = there-has new n h in let j : bit_at y (n % 64) ≡ 0 = ap (bit_at y) low ∙ s in omega arith),
              λ h. absurd (h.1 (subst (λ z. Contains (place ∷ []) z) (sym k) (Contains-here place []))),
            )
            | inr other ↦ let s = bit_at_clear_other w64 x (place % 64) small (n % 64) (omega arith) other in let v : bit_at x (n % 64) ≡ bit_of words n = ap (λ w. bit_at w (n % 64)) word in (
              λ h. let i = there-has new n h in (has-there words n (sym v ∙ sym s ∙ sym at ∙ i), λ b. other (ap (λ z. z % 64) (Contains-one place n b))),
              λ h. has-there new n (at ∙ s ∙ v ∙ there-has words n h.0),
            )
          ]
    ]

pub removed-past : (words : List ℕ) (place : ℕ) → length words ≤ place / 64 → IsDifference (places_of words) (places_of words) (place ∷ [])
removed-past words place past n = (
  λ h. (h, λ b. let e = Contains-one place n b in let l = bit-within words n (there-has words n h) in omega arith),
  λ h. h.0,
)

-- words that share no bit, or one of whose bits each is one of the other's
pub apart : (one other : List ℕ) → ((k : ℕ) → k < length one → bit_and (get_or one k 0) (get_or other k 0) ≡ 0) → (n : ℕ) → Contains (places_of one) n → Contains (places_of other) n → ⊥
apart one other each n h k =
    let i = there-has one n h in let j = there-has other n k in
    let m = bit_at_and (get_or one (n / 64) 0) (get_or other (n / 64) 0) (n % 64) in
    let w = bit-within one n i in
    let e : bit_at (bit_and (get_or one (n / 64) 0) (get_or other (n / 64) 0)) (n % 64) ≡ bit_at 0 (n % 64) = ap (λ w. bit_at w (n % 64)) (each (n / 64) (omega arith)) in
    let z = bit_at-zero (n % 64) in
    omega arith

pub within : (one other : List ℕ) → AreWords other one → ((k : ℕ) → k < length one → bit_and (get_or one k 0) (bit_not w64 (get_or other k 0)) ≡ 0) → LiesWithin (places_of one) (places_of other)
within one other small each n h =
    let i = there-has one n h in
    let m = bit_at_and (get_or one (n / 64) 0) (bit_not w64 (get_or other (n / 64) 0)) (n % 64) in
    let w = bit-within one n i in
    let v = bit_at_not w64 (get_or other (n / 64) 0) (n % 64) (small (n / 64) (omega arith)) (omega arith) in
    let e : bit_at (bit_and (get_or one (n / 64) 0) (bit_not w64 (get_or other (n / 64) 0))) (n % 64) ≡ bit_at 0 (n % 64) = ap (λ w. bit_at w (n % 64)) (each (n / 64) (omega arith)) in
    let z = bit_at-zero (n % 64) in
    has-there other n (let a = bit_at-lt (get_or other (n / 64) 0) (n % 64) in omega arith)

-- the lowest bit of a word from the bit at low on
rest-bit : (word low i : ℕ) → low ≤ i → bit_at word i ≡ bit_at (word / 2 ^ low) (i - low)
rest-bit word low i l = let e : i ≡ low + (i - low) = omega arith in ap (bit_at word) e ∙ sym (ap (λ x. x % 2) (shr-shr word low (i - low)))

pub passed-word : (words : List ℕ) (at low word bound : ℕ) → word ≡ get_or words at 0 → word / 2 ^ low ≡ 0 → ((n : ℕ) → Contains (places_of words) n → bound ≤ n → at * 64 + low ≤ n) → (n : ℕ) → Contains (places_of words) n → bound ≤ n → (at + 1) * 64 ≤ n
passed-word words at low word bound is none before n h from =
    let l = before n h from in
    elim (cases_lt n ((at + 1) * 64)) [
      | inr high ↦ high
      | inl inside ↦ absurd (
          let k : n / 64 ≡ at = omega arith in
          let bit : bit_at word (n % 64) ≡ 1 = ap (λ w. bit_at w (n % 64)) (is ∙ ap (λ k. get_or words k 0) (sym k)) ∙ there-has words n h in
          let e = rest-bit word low (n % 64) (omega arith) in
          let z : bit_at (word / 2 ^ low) (n % 64 - low) ≡ bit_at 0 (n % 64 - low) = ap (λ w. bit_at w (n % 64 - low)) none in
          let y = bit_at-zero (n % 64 - low) in omega arith)
    ]

pub passed-all : (words : List ℕ) (at low bound : ℕ) → length words ≤ at → ((n : ℕ) → Contains (places_of words) n → bound ≤ n → at * 64 + low ≤ n) → NoneFrom (places_of words) bound
passed-all words at low bound past before n h = elim (cases_lt n bound) [
  | inl below ↦ below
  | inr from ↦ absurd (let l = before n h from in let w = bit-within words n (there-has words n h) in omega arith)
]

pub lowest-within : (word low : ℕ) → word < 2 ^ 64 → low < 64 → word / 2 ^ low ≢ 0 → low + trailing_zeros w64 (word / 2 ^ low) < 64
lowest-within word low small inside some =
    let rest : ℕ = word / 2 ^ low in
    let t = bit_at-trailing_zeros w64 rest (omega arith) (let s = shr_le word low in omega arith) in
    elim (cases_lt (low + trailing_zeros w64 rest) 64) [
      | inl y ↦ y
      | inr high ↦ absurd (let e = ap (λ x. x % 2) (shr-shr word low (trailing_zeros w64 rest)) in let a = bit_at_above word 64 (low + trailing_zeros w64 rest) small high in let b = t.1 in omega arith)
    ]

pub first-found : (words : List ℕ) (at low word bound : ℕ) → word ≡ get_or words at 0 → word < 2 ^ 64 → low < 64 → word / 2 ^ low ≢ 0 → bound ≤ at * 64 + low → ((n : ℕ) → Contains (places_of words) n → bound ≤ n → at * 64 + low ≤ n) → IsLeastFrom (places_of words) bound (at * 64 + (low + trailing_zeros w64 (word / 2 ^ low)))
first-found words at low word bound is small inside some from before =
    let rest : ℕ = word / 2 ^ low in
    let zeros : ℕ = trailing_zeros w64 rest in
    let t = bit_at-trailing_zeros w64 rest (omega arith) (let s = shr_le word low in omega arith) in
    let w = lowest-within word low small inside some in
    let n : ℕ = at * 64 + (low + zeros) in
    let k : n / 64 ≡ at = omega arith in
    let r : n % 64 ≡ low + zeros = omega arith in
    record {
      there = has-there words n (ap (λ j. bit_at (get_or words j 0) (n % 64)) k ∙ ap (bit_at (get_or words at 0)) r ∙ ap (λ x. bit_at x (low + zeros)) (sym is) ∙ sym (ap (λ x. x % 2) (shr-shr word low zeros)) ∙ t.1);
      from = omega arith;
      least = λ m h l. elim (cases_lt m n) [
        | inr high ↦ high
        | inl less ↦ absurd (
            let b = before m h l in
            let j : m / 64 ≡ at = omega arith in
            let bit : bit_at word (m % 64) ≡ 1 = ap (λ x. bit_at x (m % 64)) (is ∙ ap (λ i. get_or words i 0) (sym j)) ∙ there-has words m h in
            let e = rest-bit word low (m % 64) (omega arith) in
            let z = t.2 (m % 64 - low) (omega arith) in
            omega arith)
      ];
    }

-- the bits in their order
pub filter-push_yes : {X : Type 0} (p : X → Bool) (xs : List X) (x : X) → p x ≡ true → filter p (xs ++ x ∷ []) ≡ filter p xs ++ x ∷ []
filter-push_yes p xs x h = filter-append p xs (x ∷ []) ∙ ap (λ ys. filter p xs ++ ys) (rw h refl)

pub filter-push_no : {X : Type 0} (p : X → Bool) (xs : List X) (x : X) → p x ≡ false → filter p (xs ++ x ∷ []) ≡ filter p xs
filter-push_no p xs x h = filter-append p xs (x ∷ []) ∙ ap (λ ys. filter p xs ++ ys) (rw h refl) ∙ append-nil (filter p xs)

pub words-push : (words : List ℕ) (n m : ℕ) → m ≡ n + 1 → numbers_below m ≡ numbers_below n ++ n ∷ []
words-push words n m e = ap numbers_below (let k : m ≡ suc n = omega arith in k)

-- a word that isn't 0 has a bit
pub some-bit : (word : ℕ) → word ≢ 0 → word < 2 ^ 64 → (i : ℕ) × (i < 64) × (bit_at word i ≡ 1)
some-bit word some small = let t = bit_at-trailing_zeros w64 word (omega arith) small in (trailing_zeros w64 word, t.0, t.1)

bit-at_place : (words : List ℕ) (at i : ℕ) → i < 64 → bit_of words (at * 64 + i) ≡ bit_at (get_or words at 0) i
bit-at_place words at i l =
    let k : (at * 64 + i) / 64 ≡ at = omega arith in
    let r : (at * 64 + i) % 64 ≡ i = omega arith in
    ap (λ j. bit_at (get_or words j 0) ((at * 64 + i) % 64)) k ∙ ap (bit_at (get_or words at 0)) r

pub met : (one other : List ℕ) (at : ℕ) → get_or one at 0 < 2 ^ 64 → bit_and (get_or one at 0) (get_or other at 0) ≢ 0 → (n : ℕ) × Contains (places_of one) n × Contains (places_of other) n
met one other at small some =
    let b = some-bit (bit_and (get_or one at 0) (get_or other at 0)) some (let l = and_le_l (get_or one at 0) (get_or other at 0) in omega arith) in
    let m = bit_at_and (get_or one at 0) (get_or other at 0) b.0 in
    let x = bit_at-lt (get_or one at 0) b.0 in let y = bit_at-lt (get_or other at 0) b.0 in
    let is = b.2 in
    (at * 64 + b.0, has-there one (at * 64 + b.0) (bit-at_place one at b.0 b.1 ∙ omega arith), has-there other (at * 64 + b.0) (bit-at_place other at b.0 b.1 ∙ omega arith))

pub not-within : (one other : List ℕ) (at : ℕ) → get_or one at 0 < 2 ^ 64 → get_or other at 0 < 2 ^ 64 → bit_and (get_or one at 0) (bit_not w64 (get_or other at 0)) ≢ 0 → LiesWithin (places_of one) (places_of other) → ⊥
not-within one other at small small_too some h =
    let b = some-bit (bit_and (get_or one at 0) (bit_not w64 (get_or other at 0))) some (let l = and_le_l (get_or one at 0) (bit_not w64 (get_or other at 0)) in omega arith) in
    let m = bit_at_and (get_or one at 0) (bit_not w64 (get_or other at 0)) b.0 in
    let v = bit_at_not w64 (get_or other at 0) b.0 small_too b.1 in
    let x = bit_at-lt (get_or one at 0) b.0 in
    let is = b.2 in
    let k = there-has other (at * 64 + b.0) (h (at * 64 + b.0) (has-there one (at * 64 + b.0) (bit-at_place one at b.0 b.1 ∙ omega arith))) in
    let j = bit-at_place other at b.0 b.1 in
    omega arith
