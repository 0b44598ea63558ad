use Rattle.std.proofs.Common.{◌≡◌, ◌∙◌, sym, false, Bool}
use Rattle.problems.specs.Tied.NodeEquality.{is_node}
use Rattle.problems.specs.Rules.{bare, with_extra}
use Rattle.problems.specs.declared.node.Node.{Node}
use Rattle.problems.proofs.Deciding.{any-mapped}
use Rattle.set_refutations.proofs.set_grounds.exhaustion.needs.Goals as goal

pub returns : goal.returns
returns c =
    let wanted = c.args.wanted.now in
    let test : Node → Bool = λ n. is_node n c.args.node.now.name c.args.node.now.extra in
    let bare_off : test (bare wanted.name) ≡ false = sym c.is_bare.ensures ∙ c.if-is_bare.false in
    let others = rw (c.name-own.ensures, c.extras.ensures) at c.has_extra.ensures in
    rw bare_off (others ∙ any-mapped test (with_extra wanted.name) wanted.extras)
