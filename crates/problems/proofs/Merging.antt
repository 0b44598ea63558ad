-- The dependencies that count with an extra, from the places of those that may.
use Rattle.std.proofs.Common.{◌≡◌, ◌∙◌, ◌⊎◌, inl, inr, ℕ, zero, suc, ◌+◌, ◌<◌, ◌≤◌, Bool, false, List, [], ◌∷◌, ◌++◌, Option, Some, None, filter, get_or, length, drop, arith, refl, ap, sym, append_assoc, append-nil}
use Rattle.std.proofs.lemmas.Bool.{cases_Bool, eq-eqb}
use Rattle.std.proofs.lemmas.List.{drop-drop}
use Rattle.std.specs.List.{slice_get}
use Rattle.std.specs.Option.{option_map_or}
use Rattle.std.specs.Prelude.{◌==◌, nat_lt}
use Rattle.markers.specs.Environment.{Texts}
use Rattle.markers.specs.Marker.{Tree}
use Rattle.markers.specs.MarkerExtras.{OtherExtrasAreAsNone, extras_in, is_among}
use Rattle.pep508.specs.Requirement.{RequirementParts}
use Rattle.problems.specs.Rules.{applies_with, counts}
use Rattle.problems.specs.Tied.ByExtra.{behind, least, lesser, names_extra, places}
use Rattle.problems.proofs.Places.{IsCovered, IsNextPlace, next-place, none-passes}

-- what the loop has yet to look at
pub record IsLeft (test bare naming : RequirementParts → Bool) (dependencies wanted : List RequirementParts) (first second : List ℕ) : Type 0 where
  pub from : ℕ
  pub bare_left : first ≡ places bare from (drop from dependencies)
  pub naming_left : second ≡ places naming from (drop from dependencies)
  pub passed : wanted ++ filter test (drop from dependencies) ≡ filter test dependencies

-- a marker that doesn't name an extra counts with it where it counts with none
covered-marker : OtherExtrasAreAsNone → (environment : Texts) (extra : List ℕ) (marker : Option Tree) → applies_with environment None marker ≡ false → option_map_or (λ t. is_among extra (extras_in t)) marker false ≡ false → applies_with environment (Some extra) marker ≡ false
covered-marker law environment extra None none other = none
covered-marker law environment extra (Some t) none other = law t environment extra other ∙ none

pub covered-extra : OtherExtrasAreAsNone → (environment : Texts) (extra : List ℕ) → IsCovered (counts environment (Some extra)) (counts environment None) (names_extra extra)
covered-extra law environment extra = λ wanted none other. covered-marker law environment extra wanted.marker none other

drop-more : {A : Type 0} (m n : ℕ) (xs : List A) → drop (suc n) (drop m xs) ≡ drop (suc (m + n)) xs
drop-more m n xs = let e : m + suc n ≡ suc (m + n) = omega arith in drop-drop (suc n) m xs ∙ ap (λ k. drop k xs) e

pub get-drop : {A : Type 0} (m n : ℕ) (xs : List A) → slice_get (drop m xs) n ≡ slice_get xs (m + n)
get-drop zero n xs = let e : n ≡ 0 + n = omega arith in ap (slice_get xs) e
get-drop (suc m) n [] = refl
get-drop (suc m) n (x ∷ xs) = let e : suc (m + n) ≡ suc m + n = omega arith in get-drop m n xs ∙ ap (slice_get (x ∷ xs)) e

get-within : {A : Type 0} (xs : List A) (n : ℕ) (x : A) → slice_get xs n ≡ Some x → n < length xs
get-within [] n x is = absurd (let k : None ≡ Some x = is in cc)
get-within (y ∷ xs) zero x is = omega arith
get-within (y ∷ xs) (suc n) x is = let k : n < length xs = get-within xs n x is in omega arith

pub get-is : {A : Type 0} (xs : List A) (n : ℕ) (x d : A) → slice_get xs n ≡ Some x → get_or xs n d ≡ x
get-is [] n x d is = absurd (let k : None ≡ Some x = is in cc)
get-is (y ∷ xs) zero x d is = let k : Some y ≡ Some x = is in cc
get-is (y ∷ xs) (suc n) x d is = get-is xs n x d is

-- the requirement that is next
pub record IsNext (test bare naming : RequirementParts → Bool) (dependencies wanted : List RequirementParts) (first second : List ℕ) (place : ℕ) : Type 0 where
  pub within : place < length dependencies
  pub left : (x : RequirementParts) (more : List RequirementParts) → x ≡ get_or dependencies place x → more ≡ wanted ++ filter test (x ∷ []) → IsLeft test bare naming dependencies more (behind place first) (behind place second)

pub left-next : (test bare naming : RequirementParts → Bool) → IsCovered test bare naming → (dependencies wanted : List RequirementParts) (first second : List ℕ) (place : ℕ) → IsLeft test bare naming dependencies wanted first second → least first second ≡ Some place
    → IsNext test bare naming dependencies wanted first second place
left-next test bare naming covered dependencies wanted first second place left is =
    let rest = drop left.from dependencies in
    let heads : least (places bare left.from rest) (places naming left.from rest) ≡ Some place = rw (left.bare_left, left.naming_left) at is in
    let next : IsNextPlace test bare naming rest left.from place = next-place test bare naming covered rest left.from place heads in
    let here : slice_get dependencies place ≡ Some next.item = ap (slice_get dependencies) next.is ∙ sym (get-drop left.from next.skipped dependencies) ∙ next.here in
    let behind_all : drop (suc next.skipped) rest ≡ drop (suc place) dependencies = drop-more left.from next.skipped dependencies ∙ ap (λ n. drop (suc n) dependencies) (sym next.is) in
    record {
      within = get-within dependencies place next.item here;
      left = λ x more is_there put. let item : next.item ≡ x = sym (get-is dependencies place next.item x here) ∙ sym is_there in record {
        from = suc place;
        bare_left = ap (behind place) left.bare_left ∙ next.bare_left ∙ ap (places bare (suc place)) behind_all;
        naming_left = ap (behind place) left.naming_left ∙ next.naming_left ∙ ap (places naming (suc place)) behind_all;
        passed =
            ap (λ ys. ys ++ filter test (drop (suc place) dependencies)) put
            ∙ append_assoc wanted (filter test (x ∷ [])) (filter test (drop (suc place) dependencies))
            ∙ ap (λ ys. wanted ++ ys) (ap (λ y. filter test (y ∷ []) ++ filter test (drop (suc place) dependencies)) (sym item) ∙ ap (λ ys. filter test (next.item ∷ []) ++ filter test ys) (sym behind_all) ∙ sym next.passed)
            ∙ left.passed;
      };
    }

pub left-start : (test bare naming : RequirementParts → Bool) (dependencies wanted : List RequirementParts) (first second : List ℕ) → wanted ≡ [] → first ≡ places bare 0 dependencies → second ≡ places naming 0 dependencies → IsLeft test bare naming dependencies wanted first second
left-start test bare naming dependencies wanted first second empty left right = record {
  from = 0;
  bare_left = left;
  naming_left = right;
  passed = ap (λ ys. ys ++ filter test dependencies) empty;
}

pub left-end : (test bare naming : RequirementParts → Bool) → IsCovered test bare naming → (dependencies wanted : List RequirementParts) (first second : List ℕ) → IsLeft test bare naming dependencies wanted first second → least first second ≡ None → wanted ≡ filter test dependencies
left-end test bare naming covered dependencies wanted first second left is =
    let heads : least (places bare left.from (drop left.from dependencies)) (places naming left.from (drop left.from dependencies)) ≡ None = rw (left.bare_left, left.naming_left) at is in
    sym (append-nil wanted) ∙ ap (λ ys. wanted ++ ys) (sym (none-passes test bare naming covered (drop left.from dependencies) left.from heads)) ∙ left.passed

-- each turn leaves fewer places
behind-no_more : (place : ℕ) (listed : List ℕ) → length (behind place listed) ≤ length listed
behind-no_more place [] = omega arith
behind-no_more place (first ∷ rest) = elim (cases_Bool (first == place)) [
  | inl one ↦ rw one (omega arith)
  | inr other ↦ rw other (omega arith)
]

pub behind-fewer : (place : ℕ) (listed : List ℕ) → slice_get listed 0 ≡ Some place → length (behind place listed) < length listed
behind-fewer place [] is = absurd (let k : None ≡ Some place = is in cc)
behind-fewer place (first ∷ rest) is = let e : first ≡ place = let k : Some first ≡ Some place = is in cc in rw (eq-eqb first place e) (omega arith)

lesser-one : (first second : Option ℕ) (place : ℕ) → lesser first second ≡ Some place → (first ≡ Some place) ⊎ (second ≡ Some place)
lesser-one None second place is = inr is
lesser-one (Some m) None place is = inl is
lesser-one (Some m) (Some n) place is = elim (cases_Bool (nat_lt n m)) [
  | inl less ↦ inr (rw less at is)
  | inr more ↦ inl (rw more at is)
]

pub left-fewer : (first second : List ℕ) (place : ℕ) → least first second ≡ Some place → length (behind place first) + length (behind place second) < length first + length second
left-fewer first second place is = elim (lesser-one (slice_get first 0) (slice_get second 0) place is) [
  | inl one ↦ let a = behind-fewer place first one in let b = behind-no_more place second in omega arith
  | inr other ↦ let a = behind-no_more place first in let b = behind-fewer place second other in omega arith
]
