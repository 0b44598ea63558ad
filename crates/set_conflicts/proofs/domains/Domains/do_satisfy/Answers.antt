use Rattle.std.proofs.Common.{subst₂}
use Rattle.set_conflicts.specs.Tied.Domains.{Holds}
use Rattle.set_conflicts.proofs.domains.Domains.do_satisfy.Goals as goal

pub returns : goal.returns
returns c = λ t. subst₂ (λ node set. Holds c.args.self.now node set) c.node.ensures c.set.ensures (c.does_hold.ensures t)
