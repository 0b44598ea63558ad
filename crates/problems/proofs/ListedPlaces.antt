-- Places that are listed for extras.
use Rattle.std.proofs.Common.{◌≡◌, ◌∙◌, inl, inr, ℕ, ◌+◌, ◌<◌, Bool, true, false, List, [], ◌∷◌, ◌++◌, Some, None, get_or, length, take, refl, ap, sym, subst}
use Rattle.std.proofs.lemmas.Bool.{cases_Bool}
use Rattle.std.proofs.lemmas.List.{map-append, take_more}
use Rattle.std.proofs.lemmas.Map.Text.{is_eq-slice_cmp}
use Rattle.std.proofs.lemmas.Slice.Eq.{bytes_eq-Decides}
use Rattle.std.specs.BTreeMap.{BTreeMap, Updates, get, is_at}
use Rattle.std.specs.Cmp.Lexicographic.{slice_cmp}
use Rattle.std.specs.List.{list_any}
use Rattle.std.specs.Option.{option_map_or}
use Rattle.std.specs.Ordering.{nat_cmp}
use Rattle.std.specs.Prelude.{if◌then◌else◌, map, ◌||◌}
use Rattle.std.specs.Str.{bytes_eq}
use Rattle.markers.specs.MarkerExtras.{is_among}
use Rattle.pep508.specs.Requirement.{RequirementParts}
use Rattle.problems.specs.Tied.ByExtra.{listed_for, names_extra, places, put_last}
use Rattle.problems.proofs.Places.{places-kept, places-skipped, put-again, put-next}

-- what was listed is taken out, and put back with the place at its end
pub listed-put : (old mid new : BTreeMap (List ℕ) (List ℕ)) (extra : List ℕ) (place : ℕ) (before : List ℕ) → before ≡ listed_for old extra
    → Updates (slice_cmp nat_cmp) old mid extra None → Updates (slice_cmp nat_cmp) mid new extra (Some (put_last place before)) → (other : List ℕ)
    → listed_for new other ≡ (if bytes_eq extra other then put_last place (listed_for old other) else listed_for old other)
listed-put old mid new extra place before was out back other = elim (cases_Bool (is_at (slice_cmp nat_cmp extra) other)) [
  | inl one ↦
      let bytes : bytes_eq extra other ≡ true = sym (is_eq-slice_cmp extra other) ∙ one in
      let same : extra ≡ other = (bytes_eq-Decides extra other).0 bytes in
      let now : get (slice_cmp nat_cmp) new other ≡ Some (put_last place before) = back.0 other ∙ rw one refl in
      rw bytes (ap (λ o. option_map_or (λ listed. listed) o []) now ∙ ap (put_last place) (was ∙ ap (listed_for old) same))
  | inr off ↦
      let bytes : bytes_eq extra other ≡ false = sym (is_eq-slice_cmp extra other) ∙ off in
      let now : get (slice_cmp nat_cmp) new other ≡ get (slice_cmp nat_cmp) old other = back.0 other ∙ rw off (out.0 other ∙ rw off refl) in
      rw bytes (ap (λ o. option_map_or (λ listed. listed) o []) now)
]

any-append : (test : List ℕ → Bool) (xs ys : List (List ℕ)) → list_any test (xs ++ ys) ≡ (list_any test xs || list_any test ys)
any-append test [] ys = refl
any-append test (x ∷ xs) ys = elim (cases_Bool (test x)) [
  | inl passes ↦ rw passes refl
  | inr fails ↦ rw fails (any-append test xs ys)
]

-- one more name
pub listed-more : (old mid new : List ℕ) (place : ℕ) (other extra : List ℕ) (names : List (List ℕ)) → mid ≡ (if is_among other names then put_last place old else old) → new ≡ (if bytes_eq extra other then put_last place mid else mid)
    → new ≡ (if is_among other (names ++ extra ∷ []) then put_last place old else old)
listed-more old mid new place other extra names before now = elim (cases_Bool (is_among other names)) [
  | inl among ↦
      let front : mid ≡ put_last place old = before ∙ rw among refl in
      let all : is_among other (names ++ extra ∷ []) ≡ true = any-append (λ name. bytes_eq name other) names (extra ∷ []) ∙ rw among refl in
      now ∙ elim (cases_Bool (bytes_eq extra other)) [
        | inl one ↦ rw (one, all) (ap (put_last place) front ∙ put-again place old)
        | inr off ↦ rw (off, all) front
      ]
  | inr apart ↦
      let front : mid ≡ old = before ∙ rw apart refl in
      let all : is_among other (names ++ extra ∷ []) ≡ (bytes_eq extra other || false) = any-append (λ name. bytes_eq name other) names (extra ∷ []) ∙ rw apart refl in
      now ∙ elim (cases_Bool (bytes_eq extra other)) [
        | inl one ↦ rw (one, all, one) (ap (put_last place) front)
        | inr off ↦ rw (off, all, off) front
      ]
]

-- the same over the lent names that a loop goes over
pub listed-turn : {A : Type 0} (f : A → List ℕ) (old mid new : List ℕ) (place : ℕ) (other : List ℕ) (lent : List A) (at : ℕ) (x : A) → at < length lent → x ≡ get_or lent at x
    → mid ≡ (if is_among other (map f (take at lent)) then put_last place old else old) → new ≡ (if bytes_eq (f x) other then put_last place mid else mid)
    → new ≡ (if is_among other (map f (take (at + 1) lent)) then put_last place old else old)
listed-turn f old mid new place other lent at x within is before now =
    let next : map f (take at lent) ++ f x ∷ [] ≡ map f (take (at + 1) lent) = sym (ap (map f) (take_more lent at x within) ∙ map-append f (take at lent) (get_or lent at x ∷ []) ∙ ap (λ y. map f (take at lent) ++ f y ∷ []) (sym is)) in
    subst (λ names. new ≡ (if is_among other names then put_last place old else old)) next (listed-more old mid new place other (f x) (map f (take at lent)) before now)

-- one more dependency
pub listed-next : (extra : List ℕ) (dependencies : List RequirementParts) (place : ℕ) (x : RequirementParts) (mid new : List ℕ) → place < length dependencies → x ≡ get_or dependencies place x → mid ≡ places (names_extra extra) 0 (take place dependencies)
    → new ≡ (if names_extra extra x then put_last place mid else mid) → new ≡ places (names_extra extra) 0 (take (place + 1) dependencies)
listed-next extra dependencies place x mid new within is before now = elim (cases_Bool (names_extra extra x)) [
  | inl names ↦ now ∙ rw names (ap (put_last place) before ∙ put-next (names_extra extra) dependencies place within ∙ places-kept (names_extra extra) dependencies place x within is names)
  | inr other ↦ now ∙ rw other (before ∙ places-skipped (names_extra extra) dependencies place x within is other)
]
