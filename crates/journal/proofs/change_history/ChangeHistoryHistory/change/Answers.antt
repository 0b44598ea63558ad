use Rattle.std.proofs.Common.{◌≡◌, ◌-◌, ◌<◌, length, Some, arith, refl, sym}
use Rattle.std.proofs.lemmas.Option.{slice_get_read}
use Rattle.std.specs.Prelude.{slice_get}
use Rattle.journal.specs.Tied.Neighbours.{states_of}
use Rattle.journal.proofs.Histories.{AreSteps-count, step_of}
use Rattle.journal.proofs.change_history.ChangeHistoryHistory.change.Goals as goal

pub index-requires : goal.index-requires
index-requires c =
    let states = states_of c.self.inside.state c.self.inside.changes.items c.self.inside.cursor in
    let last : c.args.step < length states = rw (sym c.self.view_is) at c.requires.last in
    let count = AreSteps-count states c.self.inside.changes.items c.self.invariant.steps in
    omega (arith, last, count, c.requires.first)

pub returns-clause-change : goal.returns-clause-change
returns-clause-change c =
    let states = states_of c.self.inside.state c.self.inside.changes.items c.self.inside.cursor in
    let last : c.args.step < length states = rw (sym c.self.view_is) at c.requires.last in
    let count = AreSteps-count states c.self.inside.changes.items c.self.invariant.steps in
    let within : c.args.step - 1 < length c.self.inside.changes.items = omega (arith, last, count, c.requires.first) in
    rw (sym c.self.view_is)
    (slice_get_read c.self.inside.changes.items (length c.self.inside.changes.items) (c.args.step - 1) c.index.result.now refl within c.index.ensures)

pub returns-clause-step : goal.returns-clause-step
returns-clause-step c =
    let states = states_of c.self.inside.state c.self.inside.changes.items c.self.inside.cursor in
    let last : c.args.step < length states = rw (sym c.self.view_is) at c.requires.last in
    let count = AreSteps-count states c.self.inside.changes.items c.self.invariant.steps in
    let within : c.args.step - 1 < length c.self.inside.changes.items = omega (arith, last, count, c.requires.first) in
    let at : slice_get c.self.inside.changes.items (c.args.step - 1) ≡ Some c.index.result.now =
    slice_get_read c.self.inside.changes.items (length c.self.inside.changes.items) (c.args.step - 1) c.index.result.now refl within c.index.ensures in
    rw (sym c.self.view_is) (step_of (record { states = states; cursor = c.self.inside.cursor }) c.self.inside.changes.items c.args.step c.index.result.now c.requires.first c.self.invariant.steps at)
