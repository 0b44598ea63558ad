use Rattle.std.proofs.Common.{◌∙◌}
use Rattle.edits.specs.Edits.{lines_after}
use Rattle.edits.specs.Refused.{refused_by_lines}
use Rattle.edits.proofs.KeepFacts.{givens-first}
use Rattle.edits.proofs.Refusals.{accepted}
use Rattle.edits.proofs.questions.problems_of_init.Goals as goal

pub returns-clause-ok : goal.returns-clause-ok
returns-clause-ok c =
    let so = accepted (refused_by_lines c.args.lines.now c.args.edit.now) (lines_after c.args.lines.now c.args.edit.now) c.in_ok-after.after c.in_ok-after.ensures in
    let givens = givens-first c.in_ok-after.after c.args.first.pins c.args.snapshot.now c.whole.result c.args.first.targets c.in_ok-targets.targets c.whole.ensures c.in_ok-targets.ensures.kept in
    (so.0, rw so.1 (c.in_ok-problems.ensures ∙ givens))
