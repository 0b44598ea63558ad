use Rattle.std.proofs.Common.{Contains, subst, sym}
use Rattle.search.specs.SetConflicts.{CompletesSet}
use Rattle.search.specs.Table.{places_eq}
use Rattle.set_conflicts.proofs.Listed.{item-member}
use Rattle.set_conflicts.proofs.completion.completes_each_version.Goals as goal

pub returns : goal.returns
returns c = λ t. record {
  term = c.index-conflict-at.result;
  there = item-member c.args.conflict.now c.args.at c.index-conflict-at.result c.if-at-conflict.false c.index-conflict-at.is;
  each = λ v i. subst (λ n. CompletesSet places_eq c.args.earlier.now c.args.conflict.now n v) c.node.ensures
      (c.in_ok-covered.ensures v (c.lies_within.ensures.within t v (subst (λ xs. Contains xs v) (sym c.set.ensures) i)));
}
