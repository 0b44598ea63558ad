-- A line that got other specifiers may stand in its place.
use Rattle.std.proofs.Common.{◌≡◌, ◌∙◌, ℕ, ◌<◌, List, [], ◌∷◌, length, is_ok, true, Result, Ok, Err, Some, refl, sym, subst, arith}
use Rattle.pep440.specs.Tied.Sets.{set_of}
use Rattle.pep440.specs.declared.fault.Fault.{Fault}
use Rattle.pep440.specs.declared.specifier.Clause.{Clause}
use Rattle.markers.specs.Names.{name_of}
use Rattle.pep508.specs.Parts.{ending_of}
use Rattle.pep508.specs.Requirement.{IsSpecifier, MayStandFor, RequirementParts, requirement_of}
use Rattle.pep508.specs.Slices.{IsCut, Slices, joined, slices_of, slices_with, with_version}
use Rattle.pep508.proofs.LineCut.{line_cut}
use Rattle.pep508.proofs.SetText.{IsSetText}
use Rattle.pep508.proofs.Slicewise.{no_name_reads}
use Rattle.pep508.proofs.WithSpecifier.{old_read, reads_with}

some_name : (name normal : List ℕ) → name_of name ≡ Ok normal → 0 < length name
some_name [] normal reads = absurd (no_name_reads normal reads)
some_name (b ∷ name) normal reads = omega arith

-- a line that asks for something has a name
pub named : (line : List ℕ) (s : Slices) (wanted : RequirementParts) → IsCut line s → requirement_of line ≡ Ok (Some wanted) → 0 < length s.name
named line s wanted cut reads =
    let same = sym cut.joins in
    some_name s.name wanted.name
    (old_read s wanted (subst (λ (l : List ℕ). IsCut l s) same cut) (subst (λ (l : List ℕ). requirement_of l ≡ Ok (Some wanted)) same reads)).name

set_there : (read : Result (List Clause) Fault) → is_ok read ≡ true → (clauses : List Clause) × (read ≡ Ok clauses)
set_there (Ok clauses) reads = (clauses, refl)
set_there (Err fault) reads = cc

end_of : (text : List ℕ) → (slices_of text).end ≡ ending_of text
unfolding slices_of slices_with
end_of text = refl

-- a set has bytes of its own, and space before it only where it leads it
abbrev pub SetsHaveTheirBytes : Type 0
SetsHaveTheirBytes = (text : List ℕ) (clauses : List Clause) → set_of text ≡ Ok clauses → IsSpecifier text → IsSetText text

pub stands : SetsHaveTheirBytes → (line specifiers : List ℕ) (wanted : RequirementParts) → requirement_of line ≡ Ok (Some wanted) → IsSpecifier specifiers
    → MayStandFor line (joined (with_version specifiers (slices_of line)))
stands own line specifiers wanted reads set =
    let s = slices_of line in
    let cut : IsCut line s = line_cut line (Some wanted) reads in
    let clauses = set_there (set_of specifiers) set.reads in
    let same = sym cut.joins in
    let r = reads_with s specifiers wanted clauses.0 (subst (λ (l : List ℕ). IsCut l s) same cut) (named line s wanted cut reads)
    (own specifiers clauses.0 clauses.1 set) (subst (λ (l : List ℕ). requirement_of l ≡ Ok (Some wanted)) same reads) clauses.1 in
    record {
      wanted = record wanted { clauses = clauses.0 };
      reads = r.requirement;
      end = sym (end_of (joined (with_version specifiers s))) ∙ r.end ∙ cut.end;
    }
