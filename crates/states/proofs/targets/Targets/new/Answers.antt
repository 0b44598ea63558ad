use Rattle.std.proofs.Common.{◌≡◌, ◌≢◌, true, false, [], ◌∙◌, refl, sym}
use Rattle.states.proofs.TargetsMade.{given-some}
use Rattle.states.proofs.targets.Targets.new.Goals as goal

pub invariant_of-result : goal.invariant_of-result
invariant_of-result c =
    let none : c.is_empty.result ≡ false = cc in
    let other : c.args.given ≢ [] = λ e. let there : c.is_empty.result ≡ true = c.is_empty.ensures ∙ rw e refl in cc (sym none ∙ there) in
    let some = given-some c.args.given c.in_ok-found.found.entries other c.in_ok-found.ensures.ok in
    (rw (← c.in_ok-list.ensures.pairs) at some, c.in_ok-list.ensures.rising)
