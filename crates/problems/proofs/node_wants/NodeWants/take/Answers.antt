use Rattle.std.proofs.Common.{◌∙◌, sym}
use Rattle.problems.specs.Tied.GroupedReleases.{IsOfItsRelease}
use Rattle.problems.proofs.Grouping.{dependencies-alike, lawful-out}
use Rattle.problems.proofs.node_wants.NodeWants.take.Goals as goal

pub invariant_of-self : goal.invariant_of-self
invariant_of-self c = lawful-out (λ name grouped. IsOfItsRelease c.self.inside.problem.now name grouped) c.self.inside.by_name c.remove.new.self c.args.name.now c.self.invariant c.remove.ensures.updates

pub invariant_of-self-else-has_version : goal.invariant_of-self-else-has_version
invariant_of-self-else-has_version c = lawful-out (λ name grouped. IsOfItsRelease c.self.inside.problem.now name grouped) c.self.inside.by_name c.remove.new.self c.args.name.now c.self.invariant c.remove.ensures.updates

pub returns-then-has_version-clause-dependencies : goal.returns-then-has_version-clause-dependencies
returns-then-has_version-clause-dependencies c = sym (dependencies-alike c.args.self.now c.args.name.now c.args.version.now c.in-Some.grouped.version (sym c.has_version.ensures ∙ c.if-has_version.true))
