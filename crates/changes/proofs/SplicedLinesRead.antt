-- Lines that are put in read one by one.
use Rattle.std.proofs.Common.{◌≡◌, ◌+◌, ℕ, true, List, [], ◌∷◌, ◌++◌, is_ok, refl, subst, inl, inr, Option, Some, None, Result, Ok, Err}
use Rattle.std.proofs.lemmas.Bool.{cases_Bool}
use Rattle.std.specs.List.{AllByRecursion, concat}
use Rattle.std.specs.Str.{is_utf8}
use Rattle.markers.specs.declared.fault.Cause.{Cause}
use Rattle.markers.specs.declared.fault.Fault.{Fault}
use Rattle.pep508.specs.Lines.{lines_of}
use Rattle.pep508.specs.Requirement.{RequirementParts, fault_or, file_of, first_fault, requirement_of, unless}
use Rattle.pep508.proofs.LinesAreCut.{cut-AreLines}
use Rattle.pep508.proofs.OneLineMore.{AreLines-file_of}
use Rattle.changes.specs.Tied.SplicedLines.{Reads}

-- ---- new lines

fault-none : (number : ℕ) (read : Result (Option RequirementParts) Cause) (later : Option Fault) → fault_or number read later ≡ None → (is_ok read ≡ true) × (later ≡ None)
fault-none number (Ok wanted) later none = (refl, none)
fault-none number (Err cause) later none = cc none

each-reads : (number : ℕ) (lines : List (List ℕ)) → first_fault number lines ≡ None → AllByRecursion Reads lines
unfolding first_fault
each-reads number [] none = tt
each-reads number (line ∷ rest) none =
    let k = fault-none number (requirement_of line) (first_fault (number + 1) rest) none in
    (k.0, each-reads (number + 1) rest k.1)

unless-none : (lines found : List (List ℕ)) (fault : Option Fault) → unless lines fault ≡ Ok found → fault ≡ None
unless-none lines found None e = refl
unless-none lines found (Some fault) e = cc e

-- lines that are read of what they join to read one by one
pub file-reads : (lines : List (List ℕ)) → file_of (concat lines) ≡ Ok lines → AllByRecursion Reads lines
file-reads lines reads = elim (cases_Bool (is_utf8 (concat lines))) [
  | inl utf8 ↦
      let found = rw utf8 at reads in
      let cut : lines_of (concat lines) ≡ lines = cut-AreLines lines (AreLines-file_of (concat lines) lines reads) in
      each-reads 1 lines (subst (λ (l : List (List ℕ)). first_fault 1 l ≡ None) cut (unless-none (lines_of (concat lines)) lines (first_fault 1 (lines_of (concat lines))) found))
  | inr other ↦ cc (rw other at reads)
]

pub all-behind : {X : Type 0} (P : X → Type 0) (xs ys : List X) → AllByRecursion P (xs ++ ys) → AllByRecursion P ys
all-behind P [] ys all = all
all-behind P (x ∷ xs) ys all = all-behind P xs ys all.1

pub all-front : {X : Type 0} (P : X → Type 0) (xs ys : List X) → AllByRecursion P (xs ++ ys) → AllByRecursion P xs
all-front P [] ys all = tt
all-front P (x ∷ xs) ys all = (all.0, all-front P xs ys all.1)
