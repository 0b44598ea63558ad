use Rattle.std.proofs.Common.{◌≡◌, ◌+◌, ◌<◌, length, Some, arith, refl, sym, rules}
use Rattle.std.proofs.lemmas.Option.{slice_get_read}
use Rattle.std.specs.Prelude.{slice_get}
use Rattle.journal.specs.Tied.Neighbours.{states_of}
use Rattle.journal.proofs.Histories.{AreSteps-count}
use Rattle.journal.proofs.Neighbours.{moved-on, step-on}
use Rattle.journal.proofs.change_history.ChangeHistoryHistory.redo.Goals as goal

pub index-requires : goal.index-requires
index-requires c =
    let count : c.count.result ≡ length c.self.inside.changes.items = rw (sym c.self.view_is) at c.count.ensures.changes in
    omega (arith, count, c.if-self-count.false)

pub carry-requires : goal.carry-requires
carry-requires c =
    let count : c.count.result ≡ length c.self.inside.changes.items = rw (sym c.self.view_is) at c.count.ensures.changes in
    let within : c.self.inside.cursor < length c.self.inside.changes.items = omega (arith, count, c.if-self-count.false) in
    let at : slice_get c.self.inside.changes.items c.self.inside.cursor ≡ Some c.index.result.now =
    slice_get_read c.self.inside.changes.items (length c.self.inside.changes.items) c.self.inside.cursor c.index.result.now refl within c.index.ensures in
    step-on c.self.inside.state c.self.inside.changes.items c.self.inside.cursor c.index.result.now c.self.invariant at

pub invariant_of-self-2 : goal.invariant_of-self-2
invariant_of-self-2 c =
    let count : c.count.result ≡ length c.self.inside.changes.items = rw (sym c.self.view_is) at c.count.ensures.changes in
    let within : c.self.inside.cursor < length c.self.inside.changes.items = omega (arith, count, c.if-self-count.false) in
    let at : slice_get c.self.inside.changes.items c.self.inside.cursor ≡ Some c.index.result.now =
    slice_get_read c.self.inside.changes.items (length c.self.inside.changes.items) c.self.inside.cursor c.index.result.now refl within c.index.ensures in
    (moved-on c.self.inside.state c.self.inside.changes.items c.self.inside.cursor c.index.result.now c.self.invariant at c.carry.new.state c.in_ok-carry.ensures.led).history

pub returns-clause-redone : goal.returns-clause-redone
returns-clause-redone c =
    let states = states_of c.self.inside.state c.self.inside.changes.items c.self.inside.cursor in
    let count : c.count.result ≡ length c.self.inside.changes.items = rw (sym c.self.view_is) at c.count.ensures.changes in
    let within : c.self.inside.cursor < length c.self.inside.changes.items = omega (arith, count, c.if-self-count.false) in
    let at : slice_get c.self.inside.changes.items c.self.inside.cursor ≡ Some c.index.result.now =
    slice_get_read c.self.inside.changes.items (length c.self.inside.changes.items) c.self.inside.cursor c.index.result.now refl within c.index.ensures in
    let moved = moved-on c.self.inside.state c.self.inside.changes.items c.self.inside.cursor c.index.result.now c.self.invariant at c.carry.new.state c.in_ok-carry.ensures.led in
    let whole = AreSteps-count states c.self.inside.changes.items c.self.invariant.steps in
    let follows : c.self.inside.cursor + 1 < length states = omega (arith, within, whole) in
    rw (sym c.self.view_is) (follows, λ i. record { states = moved.same i; cursor = c.self.inside.cursor + 1 })

pub invariant_of-self : goal.invariant_of-self
invariant_of-self c = search rules

pub returns-then-self-count-clause-kept : goal.returns-then-self-count-clause-kept
returns-then-self-count-clause-kept c = search rules

pub returns-in_err-carry-clause-kept : goal.returns-in_err-carry-clause-kept
returns-in_err-carry-clause-kept c = search rules
