-- Lists whose items are found by names, and what is put together name by name.
use Rattle.std.proofs.Common.{◌≡◌, ◌≢◌, ◌++◌, ◌||◌, ◌∙◌, ◌<◌, ◌+◌, ℕ, Bool, true, false, List, [], ◌∷◌, Contains, Option, Some, None, Less, length, get_or, drop, find, map, append_assoc, refl, sym, ap, subst, inl, inr, if◌then◌else◌}
use Rattle.std.proofs.lemmas.Bool.{and_from, cases_Bool}
use Rattle.std.proofs.lemmas.List.{drop_more}
use Rattle.std.proofs.lemmas.Slice.Eq.{bytes_eq-Decides}
use Rattle.std.specs.Cmp.Lexicographic.{nat_list_cmp_total, slice_cmp}
use Rattle.std.specs.List.{list_any}
use Rattle.std.specs.Option.{option_to_list}
use Rattle.std.specs.Ordering.{is_lt, nat_cmp}
use Rattle.std.specs.Str.{bytes_eq}
use Rattle.pylock.specs.Order.{rises}
use Rattle.changes.specs.Tied.Retargeted.{on_names}
use Rattle.states.proofs.EntryFacts.{not-below, rises-above, rises-rest}
use Rattle.lists.proofs.Members.{Contains-cons_cases, Contains-flat_map, Contains-here, Contains-map, Contains-map_of, Contains-nil, Contains-there}

-- the first item of a name
abbrev pub on : {X : Type 0} → (X → List ℕ) → List X → List ℕ → Option X
on named xs name = find (λ x. bytes_eq name (named x)) xs

-- ---- names that rise

not-itself : (a b : List ℕ) → slice_cmp nat_cmp a b ≡ Less → a ≢ b
not-itself a b less same = not-below b (subst (λ (n : List ℕ). slice_cmp nat_cmp n b ≡ Less) same less)

other-bytes : (a b : List ℕ) → a ≢ b → bytes_eq a b ≡ false
other-bytes a b other = elim (cases_Bool (bytes_eq a b)) [
  | inl same ↦ absurd (other ((bytes_eq-Decides a b).0 same))
  | inr differs ↦ differs
]

rises-cons : (name : List ℕ) (names : List (List ℕ)) → ((m : List ℕ) → Contains names m → slice_cmp nat_cmp name m ≡ Less) → rises names ≡ true → rises (name ∷ names) ≡ true
unfolding rises
rises-cons name [] above rise = refl
rises-cons name (m ∷ rest) above rise = and_from (is_lt (slice_cmp nat_cmp name m)) (rises (m ∷ rest)) (ap is_lt (above m (Contains-here m rest))) rise

-- ---- what is found

pub on-from : {X : Type 0} (named : X → List ℕ) (xs : List X) (name : List ℕ) (x : X) → on named xs name ≡ Some x → Contains xs x × (named x ≡ name)
on-from named [] name x is = absurd (cc is)
on-from named (y ∷ ys) name x is = elim (cases_Bool (bytes_eq name (named y))) [
  | inl same ↦
      let this : y ≡ x = cc (rw same at is) in
      (subst (λ z. Contains (y ∷ ys) z) this (Contains-here y ys), ap named (sym this) ∙ sym ((bytes_eq-Decides name (named y)).0 same))
  | inr other ↦
      let more = on-from named ys name x (rw other at is) in
      (Contains-there y ys x more.0, more.1)
]

pub on-none : {X : Type 0} (named : X → List ℕ) (xs : List X) (name : List ℕ) → ((x : X) → Contains xs x → named x ≢ name) → on named xs name ≡ None
on-none named [] name none = refl
on-none named (y ∷ ys) name none =
    let other : bytes_eq name (named y) ≡ false = other-bytes name (named y) (λ same. none y (Contains-here y ys) (sym same)) in
    rw other (on-none named ys name (λ x there. none x (Contains-there y ys x there)))

pub on-there : {X : Type 0} (named : X → List ℕ) (xs : List X) (x : X) → rises (map named xs) ≡ true → Contains xs x → on named xs (named x) ≡ Some x
on-there named [] x rise there = absurd (Contains-nil x there)
on-there named (y ∷ ys) x rise there = elim (Contains-cons_cases y ys x there) [
  | inl same ↦
      let own : bytes_eq (named x) (named y) ≡ true = (bytes_eq-Decides (named x) (named y)).1 (ap named (sym same)) in
      rw own (ap Some same)
  | inr more ↦
      let less = rises-above (named y) (map named ys) (named x) rise (Contains-map_of named ys x more) in
      let other : bytes_eq (named x) (named y) ≡ false = other-bytes (named x) (named y) (λ same. not-itself (named y) (named x) less (sym same)) in
      rw other (on-there named ys x (rises-rest (named y) (map named ys) rise) more)
]

-- ---- lists that rise are told by what is found

first-one : {X : Type 0} (named : X → List ℕ) (x y : X) (xs ys : List X) → rises (map named (x ∷ xs)) ≡ true → rises (map named (y ∷ ys)) ≡ true → on named (x ∷ xs) (named x) ≡ on named (y ∷ ys) (named x)
    → on named (x ∷ xs) (named y) ≡ on named (y ∷ ys) (named y) → x ≡ y
first-one named x y xs ys rise rise_too mine yours =
    let there = (on-from named (y ∷ ys) (named x) x (sym mine ∙ on-there named (x ∷ xs) x rise (Contains-here x xs))).0 in
    let back = (on-from named (x ∷ xs) (named y) y (yours ∙ on-there named (y ∷ ys) y rise_too (Contains-here y ys))).0 in
    elim (Contains-cons_cases y ys x there) [
      | inl same ↦ sym same
      | inr more ↦ elim (Contains-cons_cases x xs y back) [
        | inl same ↦ same
        | inr further ↦
            let one = rises-above (named y) (map named ys) (named x) rise_too (Contains-map_of named ys x more) in
            let two = rises-above (named x) (map named xs) (named y) rise (Contains-map_of named xs y further) in
            absurd (not-below (named x) (nat_list_cmp_total.trans (named x) (named y) (named x) two one))
      ]
    ]

-- nothing behind the first item has its name
none-behind : {X : Type 0} (named : X → List ℕ) (x : X) (xs : List X) → rises (map named (x ∷ xs)) ≡ true → on named xs (named x) ≡ None
none-behind named x xs rise =
    on-none named xs (named x) (λ y there same. not-itself (named x) (named y) (rises-above (named x) (map named xs) (named y) rise (Contains-map_of named xs y there)) (sym same))

rest-same : {X : Type 0} (named : X → List ℕ) (x : X) (xs ys : List X) → rises (map named (x ∷ xs)) ≡ true → rises (map named (x ∷ ys)) ≡ true
    → ((name : List ℕ) → on named (x ∷ xs) name ≡ on named (x ∷ ys) name) → (name : List ℕ) → on named xs name ≡ on named ys name
rest-same named x xs ys rise rise_too same name = elim (cases_Bool (bytes_eq name (named x))) [
  | inl own ↦
      let is : name ≡ named x = (bytes_eq-Decides name (named x)).0 own in
      subst (λ (n : List ℕ). on named xs n ≡ on named ys n) (sym is) (none-behind named x xs rise ∙ sym (none-behind named x ys rise_too))
  | inr other ↦ rw other at (same name)
]

pub on-one : {X : Type 0} (named : X → List ℕ) (xs ys : List X) → rises (map named xs) ≡ true → rises (map named ys) ≡ true → ((name : List ℕ) → on named xs name ≡ on named ys name) → xs ≡ ys
on-one named [] [] rise rise_too same = refl
on-one named [] (y ∷ ys) rise rise_too same = absurd (cc (same (named y) ∙ on-there named (y ∷ ys) y rise_too (Contains-here y ys)))
on-one named (x ∷ xs) [] rise rise_too same = absurd (cc (sym (same (named x)) ∙ on-there named (x ∷ xs) x rise (Contains-here x xs)))
on-one named (x ∷ xs) (y ∷ ys) rise rise_too same =
    let first : x ≡ y = first-one named x y xs ys rise rise_too (same (named x)) (same (named y)) in
    let rise_here : rises (map named (x ∷ ys)) ≡ true = subst (λ z. rises (map named (z ∷ ys)) ≡ true) (sym first) rise_too in
    let same_here : (name : List ℕ) → on named (x ∷ xs) name ≡ on named (x ∷ ys) name = subst (λ z. (name : List ℕ) → on named (x ∷ xs) name ≡ on named (z ∷ ys) name) (sym first) same in
    let rest : xs ≡ ys =
    on-one named xs ys (rises-rest (named x) (map named xs) rise) (rises-rest (named y) (map named ys) rise_too) (rest-same named x xs ys rise rise_here same_here) in
    λ i. first i ∷ rest i

-- ---- what is put together name by name

from-option : {X : Type 0} (o : Option X) (x : X) → Contains (option_to_list o) x → o ≡ Some x
from-option None x there = absurd (Contains-nil x there)
from-option (Some y) x there = elim (Contains-cons_cases y [] x there) [ inl same ↦ ap Some same | inr none ↦ absurd (Contains-nil x none) ]

-- what was put together is what one of the names has
pub on_names-from : {X : Type 0} (f : List ℕ → Option X) (names : List (List ℕ)) (x : X) → Contains (on_names f names) x → (name : List ℕ) × Contains names name × (f name ≡ Some x)
on_names-from f names x there =
    let k = Contains-flat_map (λ (name : List ℕ). option_to_list (f name)) names x there in
    (k.0, k.1, from-option (f k.0) x k.2)

if-none : {X : Type 0} (b : Bool) (o : Option X) → o ≡ None → (if b then o else None) ≡ None
if-none true o is = is
if-none false o is = refl

found-step : {X : Type 0} (named : X → List ℕ) (o : Option X) (name m : List ℕ) (more : List X) (wanted : Option X) (among : Bool) → ((x : X) → o ≡ Some x → named x ≡ name) → (m ≡ name → wanted ≡ o)
    → on named more m ≡ (if among then wanted else None) → on named (option_to_list o ++ more) m ≡ (if bytes_eq m name || among then wanted else None)
found-step named None name m more wanted among is same rest = elim (cases_Bool (bytes_eq m name)) [
  | inl own ↦
      let none : wanted ≡ None = same ((bytes_eq-Decides m name).0 own) in
      rw own (rest ∙ if-none among wanted none ∙ sym none)
  | inr other ↦ rw other rest
]
found-step named (Some x) name m more wanted among is same rest = elim (cases_Bool (bytes_eq m name)) [
  | inl own ↦
      let test : bytes_eq m (named x) ≡ true = ap (bytes_eq m) (is x refl) ∙ own in
      rw (own, test) (sym (same ((bytes_eq-Decides m name).0 own)))
  | inr other ↦
      let test : bytes_eq m (named x) ≡ false = ap (bytes_eq m) (is x refl) ∙ other in
      rw (other, test) rest
]

-- on a name stands what the name has, if it is one of those that were gone over
pub on_names-found : {X : Type 0} (named : X → List ℕ) (f : List ℕ → Option X) → ((name : List ℕ) (x : X) → f name ≡ Some x → named x ≡ name) → (names : List (List ℕ)) (m : List ℕ)
    → on named (on_names f names) m ≡ (if list_any (bytes_eq m) names then f m else None)
on_names-found named f is [] m = refl
on_names-found named f is (name ∷ rest) m =
    found-step named (f name) name m (on_names f rest) (f m) (list_any (bytes_eq m) rest) (is name) (λ same. ap f same) (on_names-found named f is rest m)

rise-step : {X : Type 0} (named : X → List ℕ) (o : Option X) (name : List ℕ) (more : List X) → ((x : X) → o ≡ Some x → named x ≡ name)
    → ((m : List ℕ) → Contains (map named more) m → slice_cmp nat_cmp name m ≡ Less) → rises (map named more) ≡ true → rises (map named (option_to_list o ++ more)) ≡ true
rise-step named None name more is above rise = rise
rise-step named (Some x) name more is above rise =
    rises-cons (named x) (map named more) (λ m there. subst (λ (n : List ℕ). slice_cmp nat_cmp n m ≡ Less) (sym (is x refl)) (above m there)) rise

nothing-rises : rises [] ≡ true
unfolding rises
nothing-rises = refl

-- and names rise, as those that were gone over do
pub on_names-rise : {X : Type 0} (named : X → List ℕ) (f : List ℕ → Option X) → ((name : List ℕ) (x : X) → f name ≡ Some x → named x ≡ name) → (names : List (List ℕ)) → rises names ≡ true
    → rises (map named (on_names f names)) ≡ true
on_names-rise named f is [] rise = nothing-rises
on_names-rise named f is (name ∷ rest) rise =
    rise-step named (f name) name (on_names f rest) (is name)
    (λ m there.
    let k = Contains-map named (on_names f rest) m there in
    let from = on_names-from f rest k.0 k.1 in
    rises-above name rest m rise (subst (Contains rest) (sym (is from.0 k.0 from.2) ∙ k.2) from.1))
    (on_names-rise named f is rest (rises-rest name rest rise))

-- ---- as a loop has it

-- one name more
pub on_names-more : {X : Type 0} (f : List ℕ → Option X) (names : List (List ℕ)) (place : ℕ) (name : List ℕ) (made whole : List X) → place < length names → name ≡ get_or names place name
    → made ++ on_names f (drop place names) ≡ whole → (made ++ option_to_list (f name)) ++ on_names f (drop (place + 1) names) ≡ whole
on_names-more f names place name made whole within is so_far =
    let here : drop place names ≡ name ∷ drop (place + 1) names = drop_more names place name within ∙ ap (λ (n : List ℕ). n ∷ drop (place + 1) names) (sym is) in
    append_assoc made (option_to_list (f name)) (on_names f (drop (place + 1) names)) ∙ sym (ap (λ (l : List (List ℕ)). made ++ on_names f l) here) ∙ so_far
