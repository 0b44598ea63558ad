use Rattle.std.proofs.Common.{◌∙◌, ap, sym}
use Rattle.problems.specs.Problem.{ProblemParts}
use Rattle.problems.proofs.Eligible.{eligible-free, eligible-held}
use Rattle.problems.proofs.problem.Problem.eligible.Goals as goal

pub returns-in-Some : goal.returns-in-Some
returns-in-Some c =
    let kept = ap (λ (given : ProblemParts). given.kept) c.self.view_is in
    let only = ap (λ (given : ProblemParts). given.only_kept) c.self.view_is in
    let value = rw c.in-Some.is at c.get.ensures.value in
    rw (c.with_version.ensures, c.releases-releases.ensures.listed)
    (eligible-held c.args.self.now c.args.name.now c.in-Some.version.now (sym only ∙ c.if-self.true) (rw kept at (sym value)))

pub returns-in_default : goal.returns-in_default
returns-in_default c =
    let kept = ap (λ (given : ProblemParts). given.kept) c.self.view_is in
    let only = ap (λ (given : ProblemParts). given.only_kept) c.self.view_is in
    let value = rw c.in_default.is at c.get.ensures.value in
    c.releases-releases.ensures.listed ∙ eligible-free c.args.self.now c.args.name.now (sym only ∙ c.if-self.true) (rw kept at (sym value))
