use Rattle.std.proofs.Common.{◌≡◌, ◌∙◌, inl, inr, refl, Ok, Err}
use Rattle.pep508.specs.Requirement.{requirement_of}
use Rattle.pep508.proofs.LineCut.{line_cut}
use Rattle.pep508.proofs.Slicewise.{line_asks}
use Rattle.pep508.proofs.req_line.ReqLine.read.Goals as goal

pub invariant_of-result : goal.invariant_of-result
invariant_of-result c =
    let reads : requirement_of c.args.line.now ≡ Ok c.in-Ok.requirement = line_asks c.args.line.now ∙ rw c.cut_ending.ensures.content at c.in-Ok.ensures in
    let is = line_cut c.args.line.now c.in-Ok.requirement reads in
    rw (c.slices_of.ensures, is.joins) (reads, is)

pub returns-in-Ok-clause-exact : goal.returns-in-Ok-clause-exact
returns-in-Ok-clause-exact c =
    let reads : requirement_of c.args.line.now ≡ Ok c.in-Ok.requirement = line_asks c.args.line.now ∙ rw c.cut_ending.ensures.content at c.in-Ok.ensures in
    rw (reads, c.slices_of.ensures) refl

pub returns-in-Ok-clause-cut : goal.returns-in-Ok-clause-cut
returns-in-Ok-clause-cut c =
    let reads : requirement_of c.args.line.now ≡ Ok c.in-Ok.requirement = line_asks c.args.line.now ∙ rw c.cut_ending.ensures.content at c.in-Ok.ensures in
    rw c.slices_of.ensures (line_cut c.args.line.now c.in-Ok.requirement reads)

pub returns-in-Err-clause-exact : goal.returns-in-Err-clause-exact
returns-in-Err-clause-exact c = elim c.in-Err.ensures [
  | inl memory ↦ inl (rw memory at c.at.ensures)
  | inr refused ↦
      let read : requirement_of c.args.line.now ≡ Err c.in-Err.cause = line_asks c.args.line.now ∙ rw c.cut_ending.ensures.content at refused in
      inr (rw (read, c.at.ensures) refl)
]
