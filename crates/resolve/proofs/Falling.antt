-- Releases that fall strictly: the newest is first, and no two have equal versions.
use Rattle.std.proofs.Common.{◌≡◌, ◌==◌, inl, inr, ℕ, zero, suc, ◌<◌, true, false, List, [], ◌∷◌, Some, Less, find, length, arith, refl, ap, subst}
use Rattle.std.proofs.lemmas.Bool.{cases_Bool, eq-eqb, eqb-true}
use Rattle.std.specs.Prelude.{slice_get}
use Rattle.std.specs.Cmp.{tied_itself}
use Rattle.std.specs.List.{AllByRecursion}
use Rattle.std.specs.List.Sorted.{IsStrictlySortedBy}
use Rattle.std.specs.Ordering.{is_eq}
use Rattle.pep440.specs.Order.{version_cmp}
use Rattle.pep440.specs.Tied.OrderLaws.{version_total}
use Rattle.pep440.specs.Version.{VersionParts}
use Rattle.snapshot.specs.Release.{Release}
use Rattle.snapshot.specs.Releases.{newer_cmp}
use Rattle.problems.specs.Admission.{has_version}
use Rattle.problems.specs.Rules.{same_version}
use Rattle.resolve.specs.Tied.Places.{version_at}

-- what each element of a list meets, the one at a place meets
met-at : (P : Release → Type 0) (rs : List Release) (place : ℕ) (r : Release) → AllByRecursion P rs → slice_get rs place ≡ Some r → P r
met-at P [] place r all at = absurd cc
met-at P (x ∷ rs) zero r all at = let e : x ≡ r = cc in subst P e all.0
met-at P (x ∷ rs) (suc place) r all at = met-at P rs place r all.1 at

-- a version is one with itself
pub same-itself : (v : VersionParts) → same_version v v ≡ true
same-itself v = rw (tied_itself version_total v) refl

-- the release at a place is the one that has its version
pub release_at-place : (rs : List Release) (place : ℕ) (r : Release) → IsStrictlySortedBy newer_cmp rs → slice_get rs place ≡ Some r → find (has_version r.version) rs ≡ Some r
unfolding IsStrictlySortedBy
release_at-place [] place r fall at = absurd cc
release_at-place (x ∷ rs) zero r fall at =
    let e : x ≡ r = cc in
    rw (← e, tied_itself version_total x.version) refl
release_at-place (x ∷ rs) (suc place) r fall at =
    let older : newer_cmp x r ≡ Less = met-at (λ y. newer_cmp x y ≡ Less) rs place r fall.0 at in
    rw older (release_at-place rs place r fall.1 at)

-- the version of the release at a place
pub version_at-get : (rs : List Release) (place : ℕ) (r : Release) → slice_get rs place ≡ Some r → version_at rs place ≡ r.version
version_at-get [] place r at = absurd cc
version_at-get (x ∷ rs) zero r at = let e : x ≡ r = cc in ap (λ (q : Release). q.version) e
version_at-get (x ∷ rs) (suc place) r at = version_at-get rs place r at

-- a release that is newer than all others has a version of its own
older-at : (x : Release) (rs : List Release) (place : ℕ) → AllByRecursion (λ y. newer_cmp x y ≡ Less) rs → place < length rs → version_cmp (version_at rs place) x.version ≡ Less
older-at x [] place all within = absurd (omega arith)
older-at x (y ∷ rs) zero all within = all.0
older-at x (y ∷ rs) (suc place) all within = older-at x rs place all.1 (omega arith)

-- two releases have equal versions at one place alone
pub version_at-tie : (rs : List Release) (p q : ℕ) → IsStrictlySortedBy newer_cmp rs → p < length rs → q < length rs → (p ≡ q → ⊥) → is_eq (version_cmp (version_at rs p) (version_at rs q)) ≡ false
unfolding IsStrictlySortedBy
version_at-tie [] p q fall left right other = absurd (omega arith)
version_at-tie (x ∷ rs) zero zero fall left right other = absurd (other refl)
version_at-tie (x ∷ rs) zero (suc q) fall left right other =
    let older = older-at x rs q fall.0 (omega arith) in
    rw (version_total.antisymm x.version (version_at rs q), older) refl
version_at-tie (x ∷ rs) (suc p) zero fall left right other = rw (older-at x rs p fall.0 (omega arith)) refl
version_at-tie (x ∷ rs) (suc p) (suc q) fall left right other = version_at-tie rs p q fall.1 (omega arith) (omega arith) (λ e. other (ap (λ n. suc n) e))

-- two places with equal versions are one
pub version_at-one : (rs : List Release) (p q : ℕ) → IsStrictlySortedBy newer_cmp rs → p < length rs → q < length rs → same_version (version_at rs p) (version_at rs q) ≡ true → p ≡ q
version_at-one rs p q fall left right same = elim (cases_Bool (p == q)) [
  | inl one ↦ eqb-true p q one
  | inr two ↦
      let differ : same_version (version_at rs p) (version_at rs q) ≡ false = version_at-tie rs p q fall left right (λ e. let one : (p == q) ≡ true = eq-eqb p q e in cc) in
      absurd cc
]

-- releases at two places have two versions
pub version_at-apart : (rs : List Release) (p q : ℕ) → IsStrictlySortedBy newer_cmp rs → p < length rs → q < length rs → version_at rs p ≡ version_at rs q → p ≡ q
version_at-apart rs p q fall left right same = version_at-one rs p q fall left right (subst (λ v. same_version (version_at rs p) v ≡ true) same (same-itself (version_at rs p)))
