use Rattle.std.proofs.Common.{◌≡◌, ◌∙◌, List, Some, ap, subst, sym}
use Rattle.std.specs.List.{slice_get}
use Rattle.pep508.specs.Requirement.{RequirementParts}
use Rattle.problems.specs.Problem.{ProblemParts}
use Rattle.problems.proofs.WalkedLists.{placed}
use Rattle.set_refutations.proofs.SetsGrounded.{needed-ground}
use Rattle.set_refutations.proofs.set_grounds.exhaustion.exhausted_by_line.Goals as goal

pub returns-in-Some : goal.returns-in-Some
returns-in-Some c =
    let active = c.as_slice-lines.ensures ∙ ap (λ (g : ProblemParts). g.active) c.problem.view_is in
    let lines = c.as_slice-lines.result.now in
    let place = c.loop-place.place in
    let line = c.index-lines-place.result in
    let node = c.in-Some.node in
    let at = subst (λ (ls : List RequirementParts). slice_get ls place ≡ Some line) active (placed lines place line c.loop-place-test.true c.index-lines-place.is) in
    let k = needed-ground c.args.problem.now c.args.earlier.now c.args.conflict.now place line node at c.in-Some.ensures.0 c.in-Some.ensures.1 in
    (k.0, k.1 ∙ sym c.node.view_is, (k.2, k.3, k.4))
