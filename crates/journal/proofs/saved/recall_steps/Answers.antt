use Rattle.std.proofs.Common.{◌≤◌, length, arith}
use Rattle.journal.proofs.Histories.{AreSteps-count}
use Rattle.journal.proofs.WrittenFacts.{lawful_all, lawful_more}
use Rattle.journal.proofs.saved.recall_steps.Goals as goal

pub loop-place-preserved : goal.loop-place-preserved
loop-place-preserved g c =
    lawful_more (g.H.History.changes c.args.history.now) c.loop-place.place c.change.result.now c.change.ensures.change c.loop-place.invariant c.recall_step.ensures

pub returns : goal.returns
returns g c =
    let changes = g.H.History.changes c.args.history.now in
    let count = AreSteps-count _ _ c.steps-place-end.ensures.lead in
    let past : length changes ≤ c.loop-place.place = omega (arith, count, c.steps-place-end.ensures.steps, c.loop-place-test.false) in
    lawful_all changes c.loop-place.place past c.loop-place.invariant
