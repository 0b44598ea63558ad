use Rattle.std.proofs.Common.{◌≤◌, length, arith, refl}
use Rattle.journal.proofs.Histories.{AreSteps-count}
use Rattle.journal.proofs.SavedVersions.{moves-at, stays-all, stays-more}
use Rattle.journal.proofs.saved.version_of.Goals as goal

pub loop-place-init : goal.loop-place-init
loop-place-init g c = refl

pub loop-place-preserved : goal.loop-place-preserved
loop-place-preserved g c =
    stays-more (g.H.History.changes c.args.history.now) c.loop-place.place c.change.result.now c.change.ensures.change (rw c.targets.ensures at c.if-not-is_empty.ensures) c.loop-place.invariant

pub returns-then-not-is_empty : goal.returns-then-not-is_empty
returns-then-not-is_empty g c =
    moves-at (g.H.History.changes c.args.history.now) c.loop-place.place c.change.result.now c.change.ensures.change (rw c.targets.ensures at c.if-not-is_empty.ensures)

pub returns : goal.returns
returns g c =
    let changes = g.H.History.changes c.args.history.now in
    let count = AreSteps-count _ _ c.steps-place-end.ensures.lead in
    let past : length changes ≤ c.loop-place.place = omega (arith, count, c.steps-place-end.ensures.steps, c.loop-place-test.false) in
    stays-all changes c.loop-place.place past c.loop-place.invariant
