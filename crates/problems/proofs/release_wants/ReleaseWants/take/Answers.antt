use Rattle.std.proofs.Common.{◌≡◌, ℕ, List}
use Rattle.problems.specs.Tied.ByExtra.{Depending}
use Rattle.problems.specs.Tied.GroupedReleases.{grouped_on}
use Rattle.problems.proofs.Grouping.{lawful-out}
use Rattle.problems.proofs.release_wants.ReleaseWants.take.Goals as goal

pub invariant_of-self : goal.invariant_of-self
invariant_of-self c = lawful-out (λ (name : List ℕ) (groups : List Depending). groups ≡ grouped_on c.self.inside.problem.now name) c.self.inside.by_name c.remove.new.self c.args.name.now c.self.invariant c.remove.ensures.updates
