-- The dependencies that name an extra and count with it, from the places of those that name it.
use Rattle.std.proofs.Common.{◌≡◌, ◌∙◌, ◌&&◌, inl, inr, ℕ, suc, ◌+◌, ◌<◌, Bool, true, List, [], ◌∷◌, ◌++◌, Some, None, filter, get_or, length, drop, arith, refl, ap, sym, subst}
use Rattle.std.proofs.lemmas.Bool.{cases_Bool}
use Rattle.std.specs.List.{slice_get}
use Rattle.std.specs.Prelude.{nat_lt}
use Rattle.markers.specs.Environment.{Texts}
use Rattle.pep508.specs.Requirement.{RequirementParts}
use Rattle.problems.specs.Rules.{counts}
use Rattle.problems.specs.Tied.ByExtra.{behind, least, names_extra, places}
use Rattle.problems.specs.Tied.OwnNeeds.{named_wants}
use Rattle.problems.proofs.Merging.{IsLeft, IsNext, get-drop, get-is, left-end, left-next}
use Rattle.problems.proofs.Places.{IsCovered}

-- whether a dependency names an extra and counts with it
abbrev pub names_and_counts : Texts → List ℕ → RequirementParts → Bool
names_and_counts environment extra = λ wanted. names_extra extra wanted && counts environment (Some extra) wanted

covered-named : (environment : Texts) (extra : List ℕ) → IsCovered (names_and_counts environment extra) (names_extra extra) (names_extra extra)
covered-named environment extra = λ wanted other _. rw other refl

-- what stands at the first place passes
record IsAtPlace (test : RequirementParts → Bool) (xs : List RequirementParts) (from place : ℕ) : Type 0 where
  pub skipped : ℕ
  pub is : place ≡ from + skipped
  pub item : RequirementParts
  pub here : slice_get xs skipped ≡ Some item
  pub passes : test item ≡ true

place-passes : (test : RequirementParts → Bool) (from : ℕ) (xs : List RequirementParts) (place : ℕ) → slice_get (places test from xs) 0 ≡ Some place → IsAtPlace test xs from place
place-passes test from [] place head = absurd (let k : None ≡ Some place = head in cc)
place-passes test from (x ∷ xs) place head = elim (cases_Bool (test x)) [
  | inl passes ↦
      let k : Some from ≡ Some place = rw passes at head in
      let same : from ≡ place = cc in
      record { skipped = 0; is = omega arith; item = x; here = refl; passes = passes }
  | inr fails ↦
      let k : IsAtPlace test xs (suc from) place = place-passes test (suc from) xs place (rw fails at head) in
      let e = k.is in
      record { skipped = suc k.skipped; is = omega arith; item = k.item; here = k.here; passes = k.passes }
]

least-same : (listed : List ℕ) (place : ℕ) → slice_get listed 0 ≡ Some place → least listed listed ≡ Some place
least-same listed place head = elim (cases_Bool (nat_lt place place)) [
  | inl less ↦ rw (head, less) refl
  | inr same ↦ rw (head, same) refl
]

least-none : (listed : List ℕ) → slice_get listed 0 ≡ None → least listed listed ≡ None
least-none listed none = rw none refl

-- one that names the extra passes where it counts
named-counted : (environment : Texts) (extra : List ℕ) (wanted : RequirementParts) → names_extra extra wanted ≡ true → filter (counts environment (Some extra)) (wanted ∷ []) ≡ filter (names_and_counts environment extra) (wanted ∷ [])
named-counted environment extra wanted names = elim (cases_Bool (counts environment (Some extra) wanted)) [
  | inl does ↦ rw (does, names) refl
  | inr not ↦ rw (not, names) refl
]

-- the dependency that is next
pub record IsNextNamed (environment : Texts) (extra : List ℕ) (dependencies wanted : List RequirementParts) (naming : List ℕ) (place : ℕ) : Type 0 where
  pub within : place < length dependencies
  pub left : (x : RequirementParts) (more : List RequirementParts) → x ≡ get_or dependencies place x → more ≡ wanted ++ filter (counts environment (Some extra)) (x ∷ [])
      → IsLeft (names_and_counts environment extra) (names_extra extra) (names_extra extra) dependencies more (behind place naming) (behind place naming)

pub named-next : (environment : Texts) (extra : List ℕ) (dependencies wanted : List RequirementParts) (naming : List ℕ) (place : ℕ) → IsLeft (names_and_counts environment extra) (names_extra extra) (names_extra extra) dependencies wanted naming naming
    → slice_get naming 0 ≡ Some place → IsNextNamed environment extra dependencies wanted naming place
named-next environment extra dependencies wanted naming place left head =
    let test = names_and_counts environment extra in
    let next : IsNext test (names_extra extra) (names_extra extra) dependencies wanted naming naming place =
    left-next test (names_extra extra) (names_extra extra) (covered-named environment extra) dependencies wanted naming naming place left (least-same naming place head) in
    let at : IsAtPlace (names_extra extra) (drop left.from dependencies) left.from place = place-passes (names_extra extra) left.from (drop left.from dependencies) place (rw left.bare_left at head) in
    let here : slice_get dependencies place ≡ Some at.item = ap (slice_get dependencies) at.is ∙ sym (get-drop left.from at.skipped dependencies) ∙ at.here in
    record {
      within = next.within;
      left = λ x more is put.
          let item : at.item ≡ x = sym (get-is dependencies place at.item x here) ∙ sym is in
          let names : names_extra extra x ≡ true = subst (λ y. names_extra extra y ≡ true) item at.passes in
          next.left x more is (put ∙ ap (λ ys. wanted ++ ys) (named-counted environment extra x names));
    }

pub named-end : (environment : Texts) (extra : List ℕ) (dependencies wanted : List RequirementParts) (naming : List ℕ) → IsLeft (names_and_counts environment extra) (names_extra extra) (names_extra extra) dependencies wanted naming naming
    → slice_get naming 0 ≡ None → wanted ≡ named_wants environment extra dependencies
named-end environment extra dependencies wanted naming left none =
    left-end (names_and_counts environment extra) (names_extra extra) (names_extra extra) (covered-named environment extra) dependencies wanted naming naming left (least-none naming none)
