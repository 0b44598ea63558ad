use Rattle.std.proofs.Common.{◌≡◌, ◌-◌, ◌<◌, length, Some, arith, refl, sym}
use Rattle.std.proofs.lemmas.Option.{slice_get_read}
use Rattle.std.specs.Prelude.{slice_get}
use Rattle.journal.proofs.Neighbours.{moved-back, step-back}
use Rattle.journal.proofs.change_history.ChangeHistoryHistory.undo.Goals as goal

pub carry-requires : goal.carry-requires
carry-requires c =
    let some : 0 < c.self.inside.cursor = omega (arith, c.if-self-eq0.false) in
    let within : c.self.inside.cursor - 1 < length c.self.inside.changes.items = omega (arith, some, c.self.invariant.within) in
    let at : slice_get c.self.inside.changes.items (c.self.inside.cursor - 1) ≡ Some c.index.result.now =
    slice_get_read c.self.inside.changes.items (length c.self.inside.changes.items) (c.self.inside.cursor - 1) c.index.result.now refl within c.index.ensures in
    step-back c.self.inside.state c.self.inside.changes.items c.self.inside.cursor c.index.result.now c.in_ok-back.back c.self.invariant some at c.in_ok-back.ensures

pub invariant_of-self-2 : goal.invariant_of-self-2
invariant_of-self-2 c =
    let some : 0 < c.self.inside.cursor = omega (arith, c.if-self-eq0.false) in
    let within : c.self.inside.cursor - 1 < length c.self.inside.changes.items = omega (arith, some, c.self.invariant.within) in
    let at : slice_get c.self.inside.changes.items (c.self.inside.cursor - 1) ≡ Some c.index.result.now =
    slice_get_read c.self.inside.changes.items (length c.self.inside.changes.items) (c.self.inside.cursor - 1) c.index.result.now refl within c.index.ensures in
    (moved-back c.self.inside.state c.self.inside.changes.items c.self.inside.cursor c.index.result.now c.in_ok-back.back c.self.invariant some at c.in_ok-back.ensures c.carry.new.state c.in_ok-carry.ensures.led).history

pub returns-clause-undone : goal.returns-clause-undone
returns-clause-undone c =
    let some : 0 < c.self.inside.cursor = omega (arith, c.if-self-eq0.false) in
    let within : c.self.inside.cursor - 1 < length c.self.inside.changes.items = omega (arith, some, c.self.invariant.within) in
    let at : slice_get c.self.inside.changes.items (c.self.inside.cursor - 1) ≡ Some c.index.result.now =
    slice_get_read c.self.inside.changes.items (length c.self.inside.changes.items) (c.self.inside.cursor - 1) c.index.result.now refl within c.index.ensures in
    let moved = moved-back c.self.inside.state c.self.inside.changes.items c.self.inside.cursor c.index.result.now c.in_ok-back.back c.self.invariant some at c.in_ok-back.ensures c.carry.new.state c.in_ok-carry.ensures.led in
    rw (sym c.self.view_is) (some, λ i. record { states = moved.same i; cursor = c.self.inside.cursor - 1 })
