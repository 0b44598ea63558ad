-- Reading a file line by line.
use Rattle.std.proofs.Common.{◌≡◌, ℕ, ◌+◌, ◌∙◌, ◌++◌, List, [], ◌∷◌, Option, Some, None, Result, Ok, Err, eqb, is_ok, true, IfOk, ap, refl, inl, inr, append-nil}
use Rattle.std.proofs.lemmas.Bool.{cases_Bool}
use Rattle.std.proofs.lemmas.Str.{IsUtf8-append, IsUtf8-nil, is_utf8-from_IsUtf8}
use Rattle.std.specs.List.{AllByRecursion, concat, onto_first}
use Rattle.std.specs.Str.{IsUtf8}
use Rattle.pep508.specs.Lines.{lines_of}
use Rattle.lists.specs.Answers.{Answers}
use Rattle.markers.specs.Faults.{fault_of, memory_fault}
use Rattle.pep508.specs.Requirement.{IsLine, RequirementParts, checked, fault_or, file_of, first_fault, lines_read, requirement_of, unless}
use Rattle.markers.specs.declared.fault.Cause.{Cause}
use Rattle.markers.specs.declared.fault.Fault.{Fault}

-- a line that passed its check reads, and is the line
pub checked-Ok : (line found : List ℕ) (read : Result (Option RequirementParts) Cause) → checked line read ≡ Ok found
    → ((wanted : Option RequirementParts) × (read ≡ Ok wanted)) × (found ≡ line)
checked-Ok line found (Ok wanted) e = ((wanted, refl), cc)
checked-Ok line found (Err cause) e = cc

-- a line that didn't is refused for the same cause
pub checked-Err : (line : List ℕ) (cause : Cause) (read : Result (Option RequirementParts) Cause) → checked line read ≡ Err cause → read ≡ Err cause
checked-Err line cause (Ok wanted) e = cc
checked-Err line cause (Err other) e = cc

-- a line that reads has no fault
pub first_fault-passed : (number : ℕ) (line : List ℕ) (rest : List (List ℕ)) (wanted : Option RequirementParts) → requirement_of line ≡ Ok wanted
    → first_fault number (line ∷ rest) ≡ first_fault (number + 1) rest
unfolding first_fault
first_fault-passed number line rest wanted e = rw e refl

-- a line that is refused has the first fault
pub first_fault-found : (number : ℕ) (line : List ℕ) (rest : List (List ℕ)) (cause : Cause) → requirement_of line ≡ Err cause
    → first_fault number (line ∷ rest) ≡ Some (fault_of number cause)
unfolding first_fault
first_fault-found number line rest cause e = rw e refl

-- no lines have no fault
pub first_fault-nil : (number : ℕ) → first_fault number [] ≡ None
unfolding first_fault
first_fault-nil number = refl

-- no bytes have no lines
pub lines_of-nil : lines_of [] ≡ []
unfolding lines_of
lines_of-nil = refl

-- a byte before lines is a byte before what they join to
concat-onto_first : (b : ℕ) (lines : List (List ℕ)) → concat (onto_first b lines) ≡ b ∷ concat lines
concat-onto_first b [] = refl
concat-onto_first b (line ∷ lines) = refl

-- the lines of a text join to the text
pub concat-lines_of : (text : List ℕ) → concat (lines_of text) ≡ text
unfolding lines_of
concat-lines_of [] = refl
concat-lines_of (b ∷ rest) = elim (cases_Bool (eqb b 10)) [
  | inl lf ↦ rw lf (ap (λ (l : List ℕ). b ∷ l) (concat-lines_of rest))
  | inr other ↦ rw (other, concat-onto_first) (ap (λ (l : List ℕ). b ∷ l) (concat-lines_of rest))
]

-- lines that are read are the lines
pub unless-Ok : (lines found : List (List ℕ)) (fault : Option Fault) → unless lines fault ≡ Ok found → found ≡ lines
unless-Ok lines found None e = cc
unless-Ok lines found (Some fault) e = cc

-- what is read of a text joins to the text
pub lines_read-joined : (text : List ℕ) (read : Result (List (List ℕ)) Fault) → Answers memory_fault (lines_read text) read
    → IfOk read (λ lines. concat lines ≡ text)
lines_read-joined text (Ok lines) e = rw (unless-Ok (lines_of text) lines (first_fault 1 (lines_of text)) e) (concat-lines_of text)
lines_read-joined text (Err fault) e = tt

-- where nothing is left of a text, its lines are those that were cut
pub lines_of-done : (text rest : List ℕ) (lines : List (List ℕ)) → lines_of text ≡ lines ++ lines_of rest → rest ≡ [] → lines_of text ≡ lines
lines_of-done text rest lines cut none =
    cut ∙ ap (λ (t : List ℕ). lines ++ lines_of t) none ∙ ap (λ (ls : List (List ℕ)). lines ++ ls) lines_of-nil ∙ append-nil lines

-- a line that reads has no fault of its own
fault_or-passed : (number : ℕ) (read : Result (Option RequirementParts) Cause) (later : Option Fault) → is_ok read ≡ true → fault_or number read later ≡ later
fault_or-passed number (Ok wanted) later reads = refl
fault_or-passed number (Err cause) later reads = cc reads

-- lines have no fault
first_fault-none : (number : ℕ) (lines : List (List ℕ)) → AllByRecursion IsLine lines → first_fault number lines ≡ None
unfolding first_fault
first_fault-none number [] all = refl
first_fault-none number (line ∷ rest) all =
    fault_or-passed number (requirement_of line) (first_fault (number + 1) rest) all.0.reads ∙ first_fault-none (number + 1) rest all.1

-- lines are UTF-8 where they are joined
concat-utf8 : (lines : List (List ℕ)) → AllByRecursion IsLine lines → IsUtf8 (concat lines)
concat-utf8 [] all = IsUtf8-nil
concat-utf8 (line ∷ rest) all = IsUtf8-append line (concat rest) all.0.utf8 (concat-utf8 rest all.1)

-- lines as a text is cut into them are read where they are joined
pub file_of-joined : (lines : List (List ℕ)) → AllByRecursion IsLine lines → lines_of (concat lines) ≡ lines → file_of (concat lines) ≡ Ok lines
file_of-joined lines all cut =
    rw (is_utf8-from_IsUtf8 (concat lines) (concat-utf8 lines all), cut, first_fault-none 1 lines all) refl
