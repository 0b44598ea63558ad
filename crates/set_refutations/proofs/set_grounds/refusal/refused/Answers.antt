use Rattle.std.proofs.Common.{◌∙◌, ap}
use Rattle.std.specs.List.{list_any}
use Rattle.std.proofs.lemmas.List.{at_drop_all}
use Rattle.problems.specs.Problem.{ProblemParts}
use Rattle.set_refutations.specs.Tied.SetCases.{refuses_all}
use Rattle.problems.proofs.WalkedLists.{placed}
use Rattle.set_refutations.proofs.SetsGrounded.{line-ground, unrefused}
use Rattle.set_refutations.proofs.set_grounds.refusal.refused.Goals as goal

pub returns-in-Some : goal.returns-in-Some
returns-in-Some c =
    let active = c.as_slice-lines.ensures ∙ ap (λ (given : ProblemParts). given.active) c.problem.view_is in
    let conflict = c.args.conflict.now in
    let place = c.loop-place.place in
    let term = c.index-conflict-place.result in
    λ earlier. line-ground c.args.problem.now c.as_slice-lines.result.now conflict c.in-Some.line place term active c.in-Some.ensures (placed conflict place term c.loop-place-test.true c.index-conflict-place.is)

pub returns : goal.returns
returns c =
    let active = c.as_slice-lines.ensures ∙ ap (λ (given : ProblemParts). given.active) c.problem.view_is in
    let given = c.args.problem.now in
    let lines = c.as_slice-lines.result.now in
    let conflict = c.args.conflict.now in
    let none = c.loop-place.invariant ∙ at_drop_all (list_any (λ term. list_any (λ line. refuses_all given line term) lines)) conflict c.loop-place.place c.loop-place-test.false in
    unrefused given lines conflict active none
