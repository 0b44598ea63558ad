use Rattle.std.proofs.Common.{◌∙◌, ◌++◌, ◌∷◌, [], List, ap, refl, sym, subst, take}
use Rattle.std.proofs.lemmas.List.{take_more}
use Rattle.search.specs.SetConflicts.{EachSetFollows, SetFollows}
use Rattle.problems.specs.Rules.{rules_of, same_version}
use Rattle.set_refutations.specs.SetRefutations.{TermParts}
use Rattle.set_refutations.proofs.SetsChecked.{each-at, each-push}
use Rattle.set_refutations.proofs.SetsGrounded.{ground-decides}
use Rattle.explain.proofs.grounds.each_ground.Goals as goal

pub returns-in-None : goal.returns-in-None
returns-in-None g c =
    let given = c.args.problem.now in
    let conflicts = c.args.conflicts.now in
    let place = c.loop-place.place in
    let none = rw c.as_slice.ensures at c.in-None.ensures in
    λ each. none (subst (λ (conflict : List TermParts). SetFollows (rules_of given) same_version (take place conflicts) conflict) (sym c.index-conflicts-place.is)
    (each-at given [] conflicts place c.index-conflicts-place.result c.loop-place-test.true each))

pub loop-place-preserved : goal.loop-place-preserved
loop-place-preserved g c =
    let given = c.args.problem.now in
    let conflicts = c.args.conflicts.now in
    let place = c.loop-place.place in
    let here = c.index-conflicts-place.result in
    let ground = rw c.as_slice.ensures at c.ground_among.ensures in
    let follows = (ground-decides given (take place conflicts) here c.ground_among.result ground).0 (rw c.in-Some.is refl) in
    let more = take_more conflicts place here c.loop-place-test.true ∙ ap (λ (conflict : List TermParts). take place conflicts ++ conflict ∷ []) (sym c.index-conflicts-place.is) in
    subst (λ (cs : List (List TermParts)). EachSetFollows (rules_of given) same_version [] cs) (sym more) (each-push given [] (take place conflicts) here c.loop-place.invariant follows)
