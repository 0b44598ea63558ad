use Rattle.std.proofs.Common.{sym, ap}
use Rattle.problems.specs.Problem.{ProblemParts}
use Rattle.resolve.proofs.Preferring.{kept-none, kept-some}
use Rattle.resolve.proofs.candidates.kept_place.Goals as goal

pub returns-in-None-clause-version : goal.returns-in-None-clause-version
returns-in-None-clause-version c =
    let kept = ap (λ (given : ProblemParts). given.kept) c.problem.view_is in
    let value = rw c.in-None.is at c.get.ensures.value in
    kept-none c.args.problem.now c.args.name.now (rw kept at (sym value))

pub returns-in-Some-clause-version : goal.returns-in-Some-clause-version
returns-in-Some-clause-version c =
    let kept = ap (λ (given : ProblemParts). given.kept) c.problem.view_is in
    let value = rw c.in-Some.is at c.get.ensures.value in
    rw (c.place_of.ensures, c.releases.ensures.listed) (kept-some c.args.problem.now c.args.name.now c.in-Some.version.now (rw kept at (sym value)))
