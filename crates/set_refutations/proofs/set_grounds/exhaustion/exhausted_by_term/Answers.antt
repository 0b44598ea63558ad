use Rattle.std.proofs.Common.{◌∙◌, sym}
use Rattle.problems.proofs.WalkedLists.{placed}
use Rattle.set_refutations.proofs.SetsGrounded.{behind-ground}
use Rattle.set_refutations.proofs.set_grounds.exhaustion.exhausted_by_term.Goals as goal

pub returns-in-Some : goal.returns-in-Some
returns-in-Some c =
    let conflict = c.args.conflict.now in
    let place = c.loop-place.place in
    let term = c.index-conflict-place.result in
    let node = c.in-Some.node in
    let k = behind-ground c.args.problem.now c.args.earlier.now conflict place term node (placed conflict place term c.loop-place-test.true c.index-conflict-place.is) c.in-Some.ensures in
    (k.0, k.1 ∙ sym c.node.view_is, (k.2, k.3, k.4))
