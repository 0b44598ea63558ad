use Rattle.std.proofs.Common.{Contains, subst, ap, ◌∙◌}
use Rattle.lists.proofs.Members.{Contains-there}
use Rattle.set_conflicts.proofs.need.does_require.Goals as goal

pub returns : goal.returns
returns c = λ t. Contains-there _ _ c.args.node (subst (λ xs. Contains xs c.args.node) (c.as_slice.ensures ∙ ap (λ r. r.more) c.requirement-required.ensures.requirement) (c.has_node.ensures t))
