use Rattle.std.proofs.Common.{◌≡◌, ◌≤◌, ◌+◌, ◌∙◌, [], ap, length, subst, sym, arith}
use Rattle.problems.specs.Tied.Growing.{nodes_met}
use Rattle.problems.specs.Problem.{ProblemParts}
use Rattle.problems.specs.Rules.{rules_of}
use Rattle.resolve.specs.Tied.Walking.{IsOnWay}
use Rattle.resolve.proofs.OnWay.{IsEnough, empty-list, taken-few, way-end, way-start}
use Rattle.resolve.proofs.walk.first_walk.Goals as goal

pub settle-requires : goal.settle-requires
settle-requires c =
    let lines = c.in_ok-lines.ensures ∙ c.as_slice.ensures ∙ ap (λ (given : ProblemParts). given.active) c.problem.view_is in
    let start = c.new-walk.ensures.start in
    let walk = c.new-walk.result in
    subst (λ (given : ProblemParts). IsOnWay given walk.taken.entries walk.waiting.entries walk.following.nodes c.in_ok-lines.lines) (sym c.new-walk.ensures.problem)
    (way-start c.args.problem.now walk.taken.entries walk.waiting.entries walk.following.nodes c.in_ok-lines.lines start.1 start.2 start.0 lines)

pub returns : goal.returns
returns c =
    let given = c.args.problem.now in
    let enough : IsEnough given = record { walk = c.own_needs_are_enough.ensures.walk given; complete = c.own_needs_are_enough.ensures.complete given } in
    rw c.into_taken.ensures
    (way-end given (c.own_needs_are_enough.ensures.lawful given) enough c.turns.walk.taken.entries c.turns.walk.waiting.entries c.turns.walk.following.nodes (λ pins. c.a_first_walk_finds_the_best_solution.ensures (rules_of given) (c.the_rules_of_a_problem_are_lawful.ensures given) pins) c.turns.invariant.way
    (empty-list c.turns.walk.waiting.entries c.in_default.ensures.variant.1))

pub turns-smaller : goal.turns-smaller
turns-smaller c =
    let given = c.args.problem.now in
    let same = c.turns.invariant.same in
    let way : IsOnWay given c.take.new.self.taken.entries c.take.new.self.waiting.entries c.take.new.self.following.nodes [] =
    subst (λ (problem : ProblemParts). IsOnWay problem c.take.new.self.taken.entries c.take.new.self.waiting.entries c.take.new.self.following.nodes []) same (c.in_ok-take.ensures.way c.if-not-branch-2.false) in
    let few : length c.take.new.self.taken.entries ≤ length (nodes_met given) = taken-few given c.take.new.self.taken c.take.new.self.waiting.entries c.take.new.self.following.nodes [] c.len-count.ensures.ordered way (c.own_needs_are_enough.ensures.needed given) in
    let more : length c.take.new.self.taken.entries ≡ length c.turns.walk.taken.entries + 1 = c.in_ok-take.ensures.longer c.if-not-branch-2.false in
    omega arith
