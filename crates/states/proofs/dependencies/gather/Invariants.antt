use Rattle.std.proofs.Common.{◌≡◌, ℕ, List, [], drop}
use Rattle.problems.specs.Solutions.{version_for}
use Rattle.states.specs.Names.{with_names}
use Rattle.states.specs.Tied.Dependencies.{names_in, names_over}
use Rattle.states.proofs.dependencies.gather.Given as goal

abbrev pub invariant-loop-node : goal.invariant-loop-node
invariant-loop-node l = record {
  same : l.wants ≡ l.fn.problem;
  names : (own : List ℕ) →
      with_names (names_in l.gathered own) (names_over l.fn.problem (version_for l.versions.entries) own (drop l.node-index l.nodes))
      ≡ with_names [] (names_over l.fn.problem (version_for l.versions.entries) own l.nodes);
}
