use Rattle.std.proofs.Common.{ℕ, Contains, subst, sym, ◌∙◌, inr}
use Rattle.search.specs.Table.{rules_of}
use Rattle.set_conflicts.proofs.Listed.{item-member}
use Rattle.set_conflicts.proofs.need.is_needed.Goals as goal

pub returns : goal.returns
returns c = λ t. inr (
  c.index-conflict-by.result,
  item-member c.args.conflict.now c.in-Some.by c.index-conflict-by.result c.if-by-conflict.false c.index-conflict-by.is,
  λ v i. subst (λ by. (wanted : ℕ) × Contains ((rules_of c.args.table.now).wants by v) wanted × Contains ((rules_of c.args.table.now).nodes wanted) c.args.node) c.node.ensures
      (c.does_each_want.ensures t v (subst (λ xs. Contains xs v) (sym (c.as_slice.ensures ∙ c.in_ok-places.ensures)) i)),
)
