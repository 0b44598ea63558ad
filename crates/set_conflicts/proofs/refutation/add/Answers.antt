use Rattle.std.proofs.Common.{[], List, subst, sym}
use Rattle.search.specs.declared.term.Term.{Term}
use Rattle.search.specs.SetConflicts.{EachSetFollows, SetFollows}
use Rattle.search.specs.Table.{rules_of, places_eq}
use Rattle.std.specs.Prelude.{ℕ}
use Rattle.set_conflicts.proofs.Pushed.{each-push}
use Rattle.set_conflicts.proofs.refutation.add.Goals as goal

pub returns : goal.returns
returns c =
    let follows = subst (λ (old : List (List (Term ℕ ℕ))). SetFollows (rules_of c.args.table.now) places_eq old c.args.conflict) c.as_slice.ensures
    (subst (λ (own : List (Term ℕ ℕ)). SetFollows (rules_of c.args.table.now) places_eq c.as_slice.result.now own) c.as_slice-2.ensures (c.in_ok-follows.ensures c.if-not-branch.false)) in
    subst (λ (cs : List (List (Term ℕ ℕ))). EachSetFollows (rules_of c.args.table.now) places_eq [] cs) (sym c.in_ok-push.ensures.items)
    (each-push (rules_of c.args.table.now) places_eq [] c.args.list.now c.args.conflict c.requires follows)
