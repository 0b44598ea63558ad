use Rattle.std.proofs.Common.{◌-◌, ◌≤◌, arith, refl, sym}
use Rattle.journal.proofs.WithoutFirst.{without-first}
use Rattle.journal.proofs.change_history.ChangeHistory.forget.Goals as goal

pub without_first-requires : goal.without_first-requires
without_first-requires c =
    let count : c.args.count ≤ c.self.inside.cursor = rw (sym c.self.view_is) at c.requires in
    let within = c.self.invariant.within in
    omega arith

pub invariant_of-self : goal.invariant_of-self
invariant_of-self c =
    let count : c.args.count ≤ c.self.inside.cursor = rw (sym c.self.view_is) at c.requires in
    (without-first c.self.inside.state c.self.inside.changes.items c.self.inside.cursor c.args.count c.without_first.new.changes.items (c.self.inside.cursor - c.args.count) c.self.invariant count c.without_first.ensures refl).history

pub returns : goal.returns
returns c =
    let count : c.args.count ≤ c.self.inside.cursor = rw (sym c.self.view_is) at c.requires in
    let left = without-first c.self.inside.state c.self.inside.changes.items c.self.inside.cursor c.args.count c.without_first.new.changes.items (c.self.inside.cursor - c.args.count) c.self.invariant count c.without_first.ensures refl in
    rw (sym c.self.view_is) (λ i. record {
      past = record { states = left.same i; cursor = c.self.inside.cursor - c.args.count };
      changes = c.without_first.ensures i;
    })
