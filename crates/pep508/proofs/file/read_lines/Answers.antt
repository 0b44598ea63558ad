use Rattle.std.proofs.Common.{◌≡◌, ◌∷◌, ◌++◌, ◌+◌, ◌∙◌, ℕ, List, [], length, refl, ap, sym, inl, inr, append_assoc, Ok}
use Rattle.std.proofs.lemmas.Bool.{eqb-true}
use Rattle.std.proofs.lemmas.List.{nil_from_length, length_push}
use Rattle.pep508.specs.Lines.{lines_of}
use Rattle.pep508.specs.Requirement.{first_fault, unless, requirement_of}
use Rattle.pep508.proofs.Files.{checked-Ok, checked-Err, first_fault-passed, first_fault-found, first_fault-nil, lines_of-done, lines_of-nil}
use Rattle.pep508.proofs.LinesAreCut.{AreLines-lines_of}
use Rattle.pep508.proofs.file.read_lines.Goals as goal

pub is_empty-requires-text-self : goal.is_empty-requires-text-self
is_empty-requires-text-self c κs = c.loop-rest.invariant.text

pub returns-in-Err : goal.returns-in-Err
returns-in-Err c = elim c.in-Err.ensures [
  | inl memory ↦ inl (rw memory at c.at.ensures)
  | inr refused ↦
      let read = checked-Err _ c.in-Err.cause (requirement_of c.split_line.result.0.now) refused in
      let n = length c.loop-rest.lines + 1 in
      let found = c.loop-rest.invariant.passed ∙ ap (first_fault n) c.split_line.ensures.cut ∙ first_fault-found n _ _ c.in-Err.cause read in
      inr (ap (unless (lines_of c.args.text.now)) found ∙ rw (c.at.ensures, c.len.ensures) refl)
]

pub loop-rest-preserved : goal.loop-rest-preserved
loop-rest-preserved c =
    let read = checked-Ok _ c.in-Ok.line (requirement_of c.split_line.result.0.now) c.in-Ok.ensures in
    let n = length c.loop-rest.lines + 1 in
    let grown : c.push.new.self ≡ c.loop-rest.lines ++ c.split_line.result.0.now ∷ [] = rw read.1 at c.in_ok-push-in-Ok.ensures.items in
    record {
      text = c.split_line.ensures.text;
      cut = rw (grown, append_assoc) (c.loop-rest.invariant.cut ∙ ap (λ (r : List (List ℕ)). c.loop-rest.lines ++ r) c.split_line.ensures.cut);
      passed = rw (grown, length_push) (c.loop-rest.invariant.passed ∙ ap (first_fault n) c.split_line.ensures.cut ∙ first_fault-passed n _ _ read.0.0 read.0.1);
    }

pub invariant_of-result : goal.invariant_of-result
invariant_of-result c =
    let empty : c.loop-rest.rest.now ≡ [] = nil_from_length _ (eqb-true _ _ (sym c.is_empty.ensures ∙ c.loop-rest-test.false)) in
    let whole = lines_of-done c.args.text.now c.loop-rest.rest.now c.loop-rest.lines c.loop-rest.invariant.cut empty in
    rw whole at (AreLines-lines_of c.args.text.now)

pub returns : goal.returns
returns c =
    let empty : c.loop-rest.rest.now ≡ [] = nil_from_length _ (eqb-true _ _ (sym c.is_empty.ensures ∙ c.loop-rest-test.false)) in
    let none : lines_of c.loop-rest.rest.now ≡ [] = ap lines_of empty ∙ lines_of-nil in
    let passed = c.loop-rest.invariant.passed ∙ ap (first_fault (length c.loop-rest.lines + 1)) none ∙ first_fault-nil _ in
    let whole = lines_of-done c.args.text.now c.loop-rest.rest.now c.loop-rest.lines c.loop-rest.invariant.cut empty in
    ap (unless (lines_of c.args.text.now)) passed ∙ ap (λ (ls : List (List ℕ)). Ok ls) whole
