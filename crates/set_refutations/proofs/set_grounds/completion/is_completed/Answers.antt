use Rattle.std.proofs.Common.{◌≡◌, ◌∙◌, ◌&&◌, Bool, sym, subst}
use Rattle.std.specs.List.{list_all}
use Rattle.set_refutations.specs.Tied.SetCases.{is_bound_beside, is_within}
use Rattle.set_refutations.proofs.SetsCompleted.{within-parted}
use Rattle.set_refutations.proofs.set_grounds.completion.is_completed.Goals as goal

pub returns-then-not-are_within_at : goal.returns-then-not-are_within_at
returns-then-not-are_within_at c =
    let node = c.args.node.now in
    let conflict = c.args.conflict.now in
    subst (λ (at : Bool). (at && list_all (is_bound_beside conflict node) c.args.old.now) ≡ list_all (is_within conflict node c.args.version.now) c.args.old.now)
    (sym c.are_within_at.ensures ∙ c.if-not-are_within_at.true) (within-parted conflict node c.args.version.now c.args.old.now)

pub returns : goal.returns
returns c =
    let node = c.args.node.now in
    let conflict = c.args.conflict.now in
    c.are_bound_beside.ensures
    ∙ subst (λ (at : Bool). (at && list_all (is_bound_beside conflict node) c.args.old.now) ≡ list_all (is_within conflict node c.args.version.now) c.args.old.now)
    (sym c.are_within_at.ensures ∙ c.if-not-are_within_at.false) (within-parted conflict node c.args.version.now c.args.old.now)
