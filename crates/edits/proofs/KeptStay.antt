-- Kept versions that are a solution stay.
use Rattle.std.proofs.Common.{◌≡◌, ◌≢◌, ◌++◌, inl, inr, ℕ, List, [], ◌∷◌, Option, Some, Contains, filter, refl, sym, subst, ◌∙◌}
use Rattle.std.proofs.lemmas.Bool.{cases_Bool}
use Rattle.lists.proofs.Members.{Contains-here}
use Rattle.pep440.specs.Order.{version_cmp}
use Rattle.pep440.specs.Version.{VersionParts}
use Rattle.std.specs.Prelude.{not}
use Rattle.std.specs.Ordering.{is_eq}
use Rattle.pylock.specs.Locks.{LockParts}
use Rattle.search.specs.Solutions.{ComesFirst, Solution as IsSolution}
use Rattle.problems.specs.Problem.{ProblemParts, releases_on}
use Rattle.problems.specs.Rules.{candidates, is_held, kept_version, rules_of, versions_of as released}
use Rattle.problems.specs.Solutions.{version_for}
use Rattle.states.specs.Locks.{IsLockOf, versions_of}
use Rattle.edits.specs.ReplaceLaws.{AreKept}

-- the kept version is the first candidate
leads : (given : ProblemParts) (name : List ℕ) (version : VersionParts) → kept_version given name ≡ Some version → (rest : List VersionParts) × (candidates given name ≡ version ∷ rest)
leads given name version kept = elim (cases_Bool (is_held given name)) [
  | inl held ↦ ([], rw (held, kept) refl)
  | inr free ↦ (filter (λ other. not (is_eq (version_cmp version other))) (released (releases_on given name)), rw (free, kept) refl)
]

-- nothing comes before what stands first
none-before : (v w : VersionParts) (rest before after : List VersionParts) → v ∷ rest ≡ before ++ w ∷ after → (Contains before v → ⊥) → w ≢ v → ⊥
none-before v w rest [] after is never other = let same : v ≡ w = cc in other (sym same)
none-before v w rest (b ∷ bs) after is never other = let same : b ≡ v = cc in never (subst (λ (x : VersionParts). Contains (b ∷ bs) x) same (Contains-here b bs))

first-is-kept : (given : ProblemParts) (name : List ℕ) (kept other : VersionParts) → kept_version given name ≡ Some kept → ComesFirst (candidates given name) other kept → ⊥
first-is-kept given name kept other is first =
    let lead = leads given name kept is in
    none-before kept other lead.0 first.0 first.1 (sym lead.1 ∙ first.2) first.3 first.4

pub kept-stay : (given : ProblemParts) (lock : LockParts) (chosen : List ℕ → Option VersionParts) → IsLockOf given lock → IsSolution (rules_of given) chosen → AreKept given chosen
    → (name : List ℕ) → version_for (versions_of lock.entries) name ≡ chosen name
kept-stay given lock chosen is solution kept name = elim (is.best.best chosen solution) [
  | inl all ↦ sym (all name)
  | inr better ↦ absurd (first-is-kept given better.name better.version_too better.version (kept better.name better.version_too better.chosen_too) better.first)
]
