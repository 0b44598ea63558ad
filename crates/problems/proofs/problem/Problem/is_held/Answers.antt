use Rattle.std.proofs.Common.{◌∙◌, ap, sym}
use Rattle.problems.specs.Problem.{ProblemParts}
use Rattle.problems.proofs.Eligible.{held-none, held-some}
use Rattle.problems.proofs.problem.Problem.is_held.Goals as goal

pub returns-in-Some : goal.returns-in-Some
returns-in-Some c =
    let kept = ap (λ (given : ProblemParts). given.kept) c.self.view_is in
    let only = ap (λ (given : ProblemParts). given.only_kept) c.self.view_is in
    let value = rw c.in-Some.is at c.get.ensures.value in
    only ∙ held-some c.args.self.now c.args.name.now c.in-Some._version.now (rw kept at (sym value))

pub returns-in-None : goal.returns-in-None
returns-in-None c =
    let kept = ap (λ (given : ProblemParts). given.kept) c.self.view_is in
    let value = rw c.in-None.is at c.get.ensures.value in
    held-none c.args.self.now c.args.name.now (rw kept at (sym value))
