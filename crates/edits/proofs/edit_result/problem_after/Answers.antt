use Rattle.std.proofs.Common.{◌∙◌}
use Rattle.edits.proofs.EditFacts.{IsAccepted, problems-so}
use Rattle.edits.proofs.edit_result.problem_after.Goals as goal

pub returns-clause-ok : goal.returns-clause-ok
returns-clause-ok c =
    let accepted : IsAccepted c.args.state.now c.args.edit.now c.args.pool.now c.in_ok-after.after c.in_ok-targets.targets =
    record { lines_are = rw c.lines.ensures at c.in_ok-after.ensures; locks = c.in_ok-targets.ensures.accepted; kept = c.in_ok-targets.ensures.kept } in
    let so = problems-so c.args.state.now c.args.edit.now c.args.pool.now c.in_ok-after.after c.in_ok-targets.targets accepted in
    (so.0, c.in_ok-problems.ensures ∙ so.1)
