use Rattle.std.proofs.Common.{◌≡◌, false, sym, ◌∙◌}
use Rattle.search.specs.Table.{rules_of}
use Rattle.set_conflicts.proofs.Listed.{each-more, each-end}
use Rattle.set_conflicts.proofs.refusal.refuses_each.Goals as goal

pub loop-place-preserved : goal.loop-place-preserved
loop-place-preserved c = each-more (λ v. (rules_of c.args.table.now).admits c.args.requirement v ≡ false) c.args.places.now c.loop-place.place-index 0 c.loop-place-test.true c.loop-place.invariant (sym c.does_admit.ensures ∙ c.if-does_admit.false)

pub returns : goal.returns
returns c = λ _. each-end (λ v. (rules_of c.args.table.now).admits c.args.requirement v ≡ false) c.args.places.now c.loop-place.place-index c.loop-place-test.false c.loop-place.invariant
