use Rattle.std.proofs.Common.{◌∙◌, ap, sym}
use Rattle.problems.specs.Problem.{ProblemParts}
use Rattle.refutations.proofs.Grounded.{found-fails, line-ground, unrefused}
use Rattle.refutations.proofs.grounds.refusal.refused.Goals as goal

pub returns-in_err-choice : goal.returns-in_err-choice
returns-in_err-choice c =
    let active = c.as_slice-lines.ensures ∙ ap (λ (g : ProblemParts). g.active) c.problem.view_is in
    rw c.from_residual.ensures (unrefused c.args.problem.now c.as_slice-lines.result.now c.args.conflict.now active (sym (c.in_err-choice.ensures)))

pub returns-in_err-place : goal.returns-in_err-place
returns-in_err-place c = absurd (found-fails _ c.args.conflict.now c.in_ok-choice.choice.now (sym (c.in_ok-choice.ensures)) (c.in_err-place.ensures))

pub returns : goal.returns
returns c =
    let active = c.as_slice-lines.ensures ∙ ap (λ (g : ProblemParts). g.active) c.problem.view_is in
    λ earlier. line-ground c.args.problem.now c.as_slice-lines.result.now c.args.conflict.now c.in_ok-choice.choice.now c.in_ok-place.place active (sym (c.in_ok-choice.ensures)) (c.in_ok-place.ensures)
