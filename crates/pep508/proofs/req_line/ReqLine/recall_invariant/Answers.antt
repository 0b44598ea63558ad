use Rattle.std.proofs.Common.{◌≡◌, refl, Ok}
use Rattle.pep508.specs.Requirement.{cut_line}
use Rattle.pep508.specs.Slices.{joined, slices_of}
use Rattle.pep508.proofs.OneCut.{one_cut}
use Rattle.pep508.proofs.req_line.ReqLine.recall_invariant.Goals as goal

pub returns-clause-reads : goal.returns-clause-reads
returns-clause-reads c =
    let slices = c.self.inside.slices in
    let same : slices_of (joined slices) ≡ slices = one_cut (joined slices) slices c.self.invariant.1 in
    let reads : cut_line (joined slices) ≡ Ok slices = rw (c.self.invariant.0, same) refl in
    rw c.self.view_is at reads
