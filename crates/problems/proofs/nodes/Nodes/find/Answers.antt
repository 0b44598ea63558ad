use Rattle.std.proofs.Common.{◌∙◌, ◌≡◌, Some, ap, option_copied, sym, subst}
use Rattle.std.specs.Option.{option_and_then}
use Rattle.problems.specs.Tied.NodeNumbers.{AreListed, number_at, number_in}
use Rattle.problems.specs.declared.node.Node.{Node}
use Rattle.problems.specs.declared.nodes.Numbers.{Numbers}
use Rattle.problems.proofs.NumbersFound.{elsewhere-apart}
use Rattle.problems.proofs.nodes.Nodes.find.Goals as goal

pub returns : goal.returns
returns c =
    let node : Node = record { name = c.args.name.now; extra = option_copied c.args.extra } in
    let listed : AreListed c.self.inside.by_name c.args.self.now = subst (AreListed c.self.inside.by_name) c.self.view_is c.self.invariant in
    let some : number_at c.self.inside.by_name node ≡ Some c.in_ok-number.number = sym (ap (option_and_then (λ (ns : Numbers). number_in ns node.extra)) c.in_ok-get.ensures.value) ∙ sym c.in_ok-number.ensures in
    elsewhere-apart c.self.inside.by_name c.args.self.now node c.in_ok-number.number listed some (sym c.is_at.ensures ∙ c.if-is_at.false)
