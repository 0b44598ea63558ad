use Rattle.std.proofs.Common.{◌∙◌, ap, sym}
use Rattle.std.specs.Option.{option_map}
use Rattle.snapshot.specs.Release.{Release}
use Rattle.problems.specs.Problem.{ProblemParts}
use Rattle.resolve.proofs.FirstAdmitted.{kept-at}
use Rattle.resolve.proofs.Preferring.{kept-none}
use Rattle.resolve.proofs.first_candidate.kept.Goals as goal

pub returns-in-None : goal.returns-in-None
returns-in-None c =
    let kept = ap (λ (given : ProblemParts). given.kept) c.problem.view_is in
    let value = rw c.in-None.is at c.get.ensures.value in
    kept-none c.args.problem.now c.args.name.now (rw kept at (sym value))

pub returns-in-Some : goal.returns-in-Some
returns-in-Some c =
    let kept = ap (λ (given : ProblemParts). given.kept) c.problem.view_is in
    let value = rw c.in-Some.is at c.get.ensures.value in
    ap (option_map (λ (release : Release). release.version)) c.release.ensures ∙ kept-at c.args.problem.now c.args.name.now c.in-Some.version.now (rw kept at (sym value))
