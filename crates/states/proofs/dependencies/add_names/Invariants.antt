use Rattle.std.proofs.Common.{◌≡◌, drop, map}
use Rattle.states.specs.Names.{with_names}
use Rattle.states.specs.Tied.Dependencies.{names_wanted}
use Rattle.states.proofs.dependencies.add_names.Given as goal

abbrev pub invariant-loop-dependency : goal.invariant-loop-dependency
invariant-loop-dependency l =
    with_names l.names.keys (names_wanted l.problem.environment l.node (map (λ w. w.now) (drop l.dependency-index l.dependencies)))
    ≡ with_names l.initial.names.keys (names_wanted l.problem.environment l.node (map (λ w. w.now) l.dependencies))
