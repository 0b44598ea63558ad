use Rattle.std.proofs.Common.{◌∙◌}
use Rattle.states.specs.Pool.{whole}
use Rattle.edits.specs.Addition.{requirement_in, with_line}
use Rattle.edits.specs.Questions.{refused_requirement}
use Rattle.edits.specs.declared.request.Edit.TheVariants.{Relock}
use Rattle.edits.proofs.KeepFacts.{givens-after}
use Rattle.edits.proofs.Refusals.{accepted}
use Rattle.edits.proofs.questions.problems_with.Goals as goal

pub returns-clause-ok : goal.returns-clause-ok
returns-clause-ok c =
    let lines = rw c.lines.ensures at c.in_ok-more.ensures in
    let so = accepted (refused_requirement (requirement_in c.args.requirement.now)) (with_line c.args.state.now.lines c.args.requirement.now) c.in_ok-more.more lines in
    let kept = rw c.whole-pool.ensures at c.in_ok-targets.ensures.kept in
    let givens = givens-after c.in_ok-more.more Relock (whole c.args.snapshot.now) c.args.state.now.targets c.in_ok-targets.targets kept in
    let problems = rw c.whole-pool.ensures at c.in_ok-problems.ensures in
    (so.0, rw so.1 (problems ∙ givens))
