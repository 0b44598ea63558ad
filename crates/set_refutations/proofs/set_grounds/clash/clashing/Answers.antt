use Rattle.std.proofs.Common.{◌∙◌}
use Rattle.std.proofs.lemmas.List.{at_drop_all}
use Rattle.set_refutations.specs.Tied.SetCases.{clash_onward}
use Rattle.problems.proofs.WalkedLists.{placed}
use Rattle.set_refutations.proofs.SetsChecked.{unclashed}
use Rattle.set_refutations.proofs.SetsGrounded.{clash-ground}
use Rattle.set_refutations.proofs.set_grounds.clash.clashing.Goals as goal

pub returns-in-Some : goal.returns-in-Some
returns-in-Some c =
    let conflict = c.args.conflict.now in
    let place = c.loop-place.place in
    let one = c.index-conflict-place.result in
    λ earlier. clash-ground c.args.problem.now conflict place c.in-Some.other one (placed conflict place one c.loop-place-test.true c.index-conflict-place.is) c.in-Some.ensures

pub returns : goal.returns
returns c =
    let given = c.args.problem.now in
    let conflict = c.args.conflict.now in
    unclashed given conflict (c.loop-place.invariant ∙ at_drop_all (clash_onward given) conflict c.loop-place.place c.loop-place-test.false)
