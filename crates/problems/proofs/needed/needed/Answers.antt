use Rattle.std.proofs.Common.{◌<◌, ◌≤◌, length, length-append, arith, ap, ◌∙◌}
use Rattle.problems.specs.Problem.{ProblemParts}
use Rattle.problems.specs.Tied.Growing.{Grows, nodes_linked, nodes_met}
use Rattle.problems.specs.Solutions.{version_for}
use Rattle.problems.proofs.Closing.{closing-end, closing-start, closing-step}
use Rattle.problems.proofs.NodesMet.{needed-met}
use Rattle.problems.proofs.needed.needed.Goals as goal

pub loop-at-init : goal.loop-at-init
loop-at-init c =
    let active = c.as_slice.ensures ∙ ap (λ (given : ProblemParts). given.active) c.problem.view_is in
    let grown = rw (c.new-nodes.ensures, active) at c.in_ok-add_lines.ensures in
    record {
      same = c.new-wants.ensures;
      closing = closing-start c.args.problem.now (version_for c.args.versions.now.entries) c.add_lines.new.nodes grown;
      within = omega arith;
    }

pub loop-at-preserved : goal.loop-at-preserved
loop-at-preserved c =
    let node = c.index-as_slice-at.result in
    let within : c.loop-at.at < length c.loop-at.nodes = rw c.len.ensures.count at c.loop-at-test.true in
    let is = rw c.as_slice-in-loop-at.ensures at c.index-as_slice-at.is in
    let grown : Grows c.loop-at.nodes c.follow.new.nodes (nodes_linked c.args.problem.now node (version_for c.args.versions.now.entries node.name)) = rw (c.in_ok-node.ensures.cases, c.loop-at.invariant.same) at c.in_ok-follow.ensures.grown in
    let longer = ap length grown.extended in
    record {
      same = c.follow.ensures.same ∙ c.loop-at.invariant.same;
      closing = closing-step c.args.problem.now (version_for c.args.versions.now.entries) c.loop-at.nodes c.follow.new.nodes c.loop-at.at node c.loop-at.invariant.closing within is grown;
      within = omega (arith, longer, length-append c.loop-at.nodes grown.more);
    }

pub returns : goal.returns
returns c =
    let past : length c.loop-at.nodes ≤ c.loop-at.at = rw c.len.ensures.count at c.loop-at-test.false in
    rw c.into_seq.ensures (closing-end c.other_extras_are_as_none.ensures c.args.problem.now (version_for c.args.versions.now.entries) c.loop-at.nodes c.loop-at.at c.loop-at.invariant.closing past)

pub loop-at-smaller : goal.loop-at-smaller
loop-at-smaller c =
    let within : c.loop-at.at < length c.loop-at.nodes = rw c.len.ensures.count at c.loop-at-test.true in
    let few : length c.loop-at.nodes ≤ length (nodes_met c.args.problem.now) = c.len.ensures.once (nodes_met c.args.problem.now) (λ node there. needed-met c.args.problem.now (version_for c.args.versions.now.entries) node (c.loop-at.invariant.closing.sound node there)) in
    omega arith
