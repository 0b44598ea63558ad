use Rattle.std.proofs.Common.{◌∙◌, ◌++◌, ◌∷◌, [], List, ap, sym, subst, take}
use Rattle.std.proofs.lemmas.List.{take_more}
use Rattle.search.specs.Conflicts.{EachFollows, Follows}
use Rattle.problems.specs.Choices.{ChoiceParts}
use Rattle.problems.specs.Rules.{rules_of, same_version}
use Rattle.refutations.proofs.Checked.{each-at, each-push}
use Rattle.refutations.proofs.checker.each_follows.Goals as goal

pub loop-place-preserved : goal.loop-place-preserved
loop-place-preserved g c =
    let given = c.args.problem.now in
    let conflicts = c.args.conflicts.now in
    let place = c.loop-place.place in
    let here = c.index-conflicts-place.result in
    let follows = (rw c.as_slice.ensures at c.follows.ensures).0 c.if-not-follows.false in
    let more = take_more conflicts place here c.loop-place-test.true ∙ ap (λ (conflict : List ChoiceParts). take place conflicts ++ conflict ∷ []) (sym c.index-conflicts-place.is) in
    subst (λ (cs : List (List ChoiceParts)). EachFollows (rules_of given) same_version [] cs) (sym more) (each-push given [] (take place conflicts) here c.loop-place.invariant follows)

pub returns-then-not-follows : goal.returns-then-not-follows
returns-then-not-follows g c =
    let given = c.args.problem.now in
    let conflicts = c.args.conflicts.now in
    let place = c.loop-place.place in
    let follows = rw c.as_slice.ensures at c.follows.ensures in (
      (λ h. let never = h in absurd cc),
      (λ each. sym c.if-not-follows.true
          ∙ follows.1 (subst (λ (conflict : List ChoiceParts). Follows (rules_of given) same_version (take place conflicts) conflict) (sym c.index-conflicts-place.is)
          (each-at given [] conflicts place c.index-conflicts-place.result c.loop-place-test.true each))),
    )
