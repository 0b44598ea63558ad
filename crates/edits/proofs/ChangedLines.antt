-- Lines of which one is left out, or gets other specifiers.
use Rattle.std.proofs.Common.{◌≡◌, ◌⊎◌, ℕ, true, List, Contains, Option, Some, None, Result, Ok, Err, map, refl, inl, inr}
use Rattle.std.proofs.lemmas.Bool.{cases_Bool}
use Rattle.markers.specs.declared.fault.Cause.{Cause}
use Rattle.pep508.specs.Lines.{AreLines}
use Rattle.pep508.specs.Requirement.{IsSpecifier, MayStandFor, RequirementParts, requirement_of}
use Rattle.pep508.specs.Slices.{joined, slices_of, with_version}
use Rattle.pep508.specs.Required.{if_read, is_on, required_by}
use Rattle.edits.specs.LinesOnName.{line_with, with_set_on}

-- a line that requires something may stand for itself with other specifiers, and lines may be exchanged so
abbrev pub MayGetSpecifiers : Type 0
MayGetSpecifiers = (line specifiers : List ℕ) (wanted : RequirementParts) → requirement_of line ≡ Ok (Some wanted) → IsSpecifier specifiers
    → MayStandFor line (joined (with_version specifiers (slices_of line)))

abbrev pub MayBeExchanged : Type 0
MayBeExchanged = (change : List ℕ → List ℕ) (lines : List (List ℕ)) → AreLines lines
    → ((line : List ℕ) → Contains lines line → (change line ≡ line) ⊎ MayStandFor line (change line)) → AreLines (map change lines)

-- a line on a name requires something
required : (name : List ℕ) (read : Result (Option RequirementParts) Cause) → is_on name (if_read read) ≡ true → (wanted : RequirementParts) × (read ≡ Ok (Some wanted))
required name (Ok None) on = cc
required name (Ok (Some wanted)) on = (wanted, refl)
required name (Err cause) on = cc

pub required-on : (name line : List ℕ) → is_on name (required_by line) ≡ true → (wanted : RequirementParts) × (requirement_of line ≡ Ok (Some wanted))
required-on name line on = required name (requirement_of line) on

-- a line stays, or requires something with its specifiers
stays : MayGetSpecifiers → (name specifiers line : List ℕ) → IsSpecifier specifiers
    → (line_with name specifiers line ≡ line) ⊎ MayStandFor line (line_with name specifiers line)
stays get name specifiers line set = elim (cases_Bool (is_on name (required_by line))) [
  | inl on ↦ let found = required-on name line on in inr (rw on (get line specifiers found.0 found.1 set))
  | inr other ↦ inl (rw other refl)
]

pub AreLines-with_set : MayGetSpecifiers → MayBeExchanged → (name specifiers : List ℕ) (lines : List (List ℕ)) → IsSpecifier specifiers → AreLines lines
    → AreLines (with_set_on name specifiers lines)
AreLines-with_set get exchange name specifiers lines set are = exchange (line_with name specifiers) lines are (λ line there. stays get name specifiers line set)
