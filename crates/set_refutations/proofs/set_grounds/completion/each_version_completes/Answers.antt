use Rattle.std.proofs.Common.{◌∙◌, sym}
use Rattle.std.specs.List.{list_any}
use Rattle.std.proofs.lemmas.List.{at_drop_all}
use Rattle.set_refutations.specs.Tied.SetCases.{each_completes}
use Rattle.problems.proofs.Deciding.{never}
use Rattle.problems.proofs.WalkedLists.{placed}
use Rattle.set_refutations.proofs.SetsCompleted.{each-decides}
use Rattle.set_refutations.proofs.SetsGrounded.{each-ground}
use Rattle.set_refutations.proofs.set_grounds.completion.each_version_completes.Goals as goal

pub returns-then-term_completes : goal.returns-then-term_completes
returns-then-term_completes c =
    let conflict = c.args.conflict.now in
    let place = c.loop-place.place in
    let term = c.index-conflict-place.result in
    λ given. each-ground c.args.earlier.now conflict place term (placed conflict place term c.loop-place-test.true c.index-conflict-place.is) (sym c.term_completes.ensures ∙ c.if-term_completes.true)

pub returns : goal.returns
returns c =
    let earlier = c.args.earlier.now in
    let conflict = c.args.conflict.now in
    never _ (each-decides earlier conflict) (c.loop-place.invariant ∙ at_drop_all (list_any (each_completes earlier conflict)) conflict c.loop-place.place c.loop-place-test.false)
