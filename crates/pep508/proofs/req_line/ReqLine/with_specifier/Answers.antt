use Rattle.std.proofs.Common.{◌≡◌, List, Some, Ok}
use Rattle.std.proofs.lemmas.Result.{IfOk-weaker}
use Rattle.pep440.specs.Tied.Sets.{set_of}
use Rattle.pep440.specs.declared.specifier.Clause.{Clause}
use Rattle.pep508.specs.Requirement.{ReadsWith, RequirementParts, requirement_of}
use Rattle.pep508.specs.Slices.{IsCut, joined, with_version}
use Rattle.pep508.proofs.SetText.{IsSetText}
use Rattle.pep508.proofs.WithSpecifier.{reads_with}
use Rattle.pep508.proofs.req_line.ReqLine.with_specifier.Goals as goal

pub returns-clause-reads : goal.returns-clause-reads
returns-clause-reads c =
    let text = c.args.specifier.now in
    let slices = c.args.self.now in
    let cut : IsCut (joined slices) slices = rw c.self.view_is at c.self.invariant.1 in
    let is_set : (clauses : List Clause) → set_of text ≡ Ok clauses → IsSetText text = λ clauses set. record {
      bytes = c.a_set_has_its_bytes.ensures.bytes text clauses set;
      begins = c.a_set_has_its_bytes.ensures.first text clauses set c.text.ensures.reads.first;
      first = c.text.ensures.reads.first;
      last = c.text.ensures.reads.last;
    } in
    IfOk-weaker c.joined_with.result (λ found. found ≡ joined (with_version c.text.result.now c.self.inside.slices))
    (λ found. (wanted : RequirementParts) (clauses : List Clause) → requirement_of (joined slices) ≡ Ok (Some wanted) → set_of text ≡ Ok clauses → ReadsWith slices wanted clauses found)
    (λ found is wanted clauses reads set. rw (is, c.text.ensures.text, c.self.view_is) (reads_with slices text wanted clauses cut c.requires (is_set clauses set) reads set))
    c.joined_with.ensures
