use Rattle.std.proofs.Common.{subst}
use Rattle.problems.specs.Tied.Standing.{IsOnce}
use Rattle.problems.proofs.NumbersFound.{listed-once}
use Rattle.problems.proofs.nodes.Nodes.len.Goals as goal

pub returns-clause-once : goal.returns-clause-once
returns-clause-once c = subst (λ nodes. IsOnce nodes) c.self.view_is (listed-once c.self.inside.by_name c.self.inside.nodes.items c.self.invariant)
