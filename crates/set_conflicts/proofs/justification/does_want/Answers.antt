use Rattle.std.proofs.Common.{Contains, sym, ◌∙◌, subst}
use Rattle.set_conflicts.proofs.Kept.{wanted-needs}
use Rattle.set_conflicts.proofs.justification.does_want.Goals as goal

pub returns : goal.returns
returns c = λ t pins k. wanted-needs c.args.table.now c.requires pins c.args.domains.now c.args.by c.args.node c.in-Some.set.now c.in-Some.ensures.0
    (λ v i. c.does_each_want.ensures t v (subst (λ xs. Contains xs v) (sym (c.as_slice.ensures ∙ c.in_ok-places.ensures)) i)) k
