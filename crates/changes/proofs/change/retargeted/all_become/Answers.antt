use Rattle.std.proofs.Common.{◌≡◌, List, ℕ, subst}
use Rattle.std.specs.List.{AllByRecursion}
use Rattle.lists.proofs.Members.{take-whole}
use Rattle.changes.specs.Tied.Retargeted.{Becomes, carried_on}
use Rattle.changes.proofs.ByName.{on_names-more}
use Rattle.changes.proofs.CarriedTests.{all-more}
use Rattle.changes.proofs.OneTarget.{becomes-carried}
use Rattle.changes.proofs.Retargeted.{made-all}
use Rattle.changes.proofs.change.retargeted.all_become.Goals as goal

pub returns-in_default : goal.returns-in_default
returns-in_default c = (c.name-item.result, rw c.in_default.is at c.in_ok-next.ensures)

pub loop-name-preserved : goal.loop-name-preserved
loop-name-preserved c =
    let change = c.args.change.now in
    let digest = c.args.digest in
    let olds = c.args.targets.now in
    let only = rw c.in-Some.is at c.in_ok-next.ensures in
    let is : c.in-Some.next ≡ carried_on change digest olds c.name-item.result = becomes-carried change digest olds c.name-item.result c.in-Some.next c.recall_invariant.ensures.entries only.0 in
    record {
      made = rw (c.in_ok-push_some.ensures, is)
          (on_names-more (carried_on change digest olds) c.args.names.now c.loop-name.name-index c.name-item.result c.loop-name.made.items _ c.loop-name-test.true c.name-item.is c.loop-name.invariant.made);
      each = all-more (λ (name : List ℕ). Becomes change digest olds name (carried_on change digest olds name)) c.args.names.now c.loop-name.name-index c.name-item.result c.loop-name-test.true c.name-item.is
          c.loop-name.invariant.each (subst (Becomes change digest olds c.name-item.result) is only.0);
    }

pub returns : goal.returns
returns c =
    let change = c.args.change.now in
    let digest = c.args.digest in
    let olds = c.args.targets.now in
    rw c.from_vec.ensures (record {
      made_are = made-all change digest olds c.args.names.now c.loop-name.name-index c.loop-name.made.items c.loop-name-test.false c.loop-name.invariant.made;
      each = subst (AllByRecursion (λ (name : List ℕ). Becomes change digest olds name (carried_on change digest olds name))) (take-whole c.args.names.now c.loop-name.name-index c.loop-name-test.false) c.loop-name.invariant.each;
    })
