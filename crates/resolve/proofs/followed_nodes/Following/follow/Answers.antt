use Rattle.std.proofs.Common.{option_copied}
use Rattle.problems.specs.declared.node.Node.{Node}
use Rattle.resolve.proofs.OnWay.{follow-grown, follow-stayed}
use Rattle.resolve.proofs.followed_nodes.Following.follow.Goals as goal

pub returns-in_ok-append-clause-followed : goal.returns-in_ok-append-clause-followed
returns-in_ok-append-clause-followed c =
    let node : Node = record { name = c.args.name.now; extra = option_copied c.args.extra } in
    let pushed = rw c.in_ok-wanted.ensures.wanted at c.in_ok-append.ensures in
    let longer = rw (c.as_slice-before.ensures, c.as_slice.ensures) at c.if-as_slice-before.true in
    follow-grown c.args.self.now.wants c.args.version.now node c.args.self.now.nodes c.number_of.new.self c.args.asks.now c.append.new.self c.in_ok-number_of.ensures.only longer pushed

pub returns-else-as_slice-before-clause-followed : goal.returns-else-as_slice-before-clause-followed
returns-else-as_slice-before-clause-followed c =
    let node : Node = record { name = c.args.name.now; extra = option_copied c.args.extra } in
    let short = rw (c.as_slice-before.ensures, c.as_slice.ensures) at c.if-as_slice-before.false in
    follow-stayed c.args.self.now.wants c.args.version.now node c.args.self.now.nodes c.number_of.new.self c.args.asks.now c.in_ok-number_of.ensures.only short
