use Rattle.std.proofs.Common.{◌≡◌, ◌∙◌, ap, ◌<◌, ◌≤◌, ◌+◌, List, Contains, length, subst, sym, take, vec_len, arith}
use Rattle.std.specs.List.{AllZip}
use Rattle.problems.specs.Problem.{ProblemParts}
use Rattle.problems.specs.Tied.Growing.{nodes_met}
use Rattle.problems.specs.Tied.Standing.{Stands}
use Rattle.problems.specs.declared.node.Node.{Node}
use Rattle.resolve.specs.Tied.Building.{AreEntries, Gathered, IsWanted}
use Rattle.resolve.proofs.Gathered.{grown-then, wants-more}
use Rattle.resolve.proofs.Standing.{length-longer}
use Rattle.resolve.proofs.gathered_nodes.Gathering.ask_nodes.Goals as goal

pub ask_node-requires-clause-entries : goal.ask_node-requires-clause-entries
ask_node-requires-clause-entries c = subst (λ (given : ProblemParts). AreEntries given c.nodes.self) (sym c.nodes.invariant.4) c.nodes.invariant.0

pub nodes-preserved : goal.nodes-preserved
nodes-preserved c =
    let count = vec_len c.nodes.wants in
    let same = c.nodes.invariant.4 in
    let within : count < length c.nodes.self.nodes = subst (λ (ns : List Node). count < length ns) (ap (λ (g : Gathered). g.nodes) c.self.view_is) (let e = c.len-in-nodes.ensures.count in let k = c.len.ensures in let t = c.nodes-test.true in omega arith) in
    let longer : length c.nodes.self.nodes ≤ length c.ask_node.new.self.nodes = length-longer c.nodes.self.nodes c.ask_node.new.self.nodes c.in_ok-rows.ensures.grown.nodes_more in
    let rows = subst (λ (given : ProblemParts). (node : Node) → Stands c.nodes.self.nodes c.len-in-nodes-2.result node → IsWanted given c.ask_node.new.self.asked c.in_ok-rows.rows node) same c.in_ok-rows.ensures.rows in
    let pushed : vec_len c.push.new.self ≡ count + 1 = c.in_ok-push.ensures.len in (
      subst (λ (given : ProblemParts). AreEntries given c.ask_node.new.self) same c.in_ok-rows.ensures.entries,
      grown-then c.args.self.now c.nodes.self c.ask_node.new.self c.nodes.invariant.1 c.in_ok-rows.ensures.grown,
      omega arith,
      subst (λ n. AllZip (IsWanted c.args.problem.now c.ask_node.new.self.asked) c.push.new.self.items (take n c.ask_node.new.self.nodes)) (sym pushed)
          (wants-more c.args.problem.now c.nodes.self c.ask_node.new.self c.nodes.wants.items c.push.new.self.items c.in_ok-rows.rows count within c.in_ok-rows.ensures.grown c.nodes.invariant.3
          (subst (λ n. (node : Node) → Stands c.nodes.self.nodes n node → IsWanted c.args.problem.now c.ask_node.new.self.asked c.in_ok-rows.rows node) c.len-in-nodes-2.ensures rows) c.in_ok-push.ensures.items),
      c.ask_node.ensures.same ∙ same,
    )

pub nodes-smaller : goal.nodes-smaller
nodes-smaller c =
    let count = vec_len c.nodes.wants in
    let within : count < length c.self.inside.nodes = let e = c.len-in-nodes.ensures.count in let k = c.len.ensures in let t = c.nodes-test.true in omega arith in
    let few : length c.self.inside.nodes ≤ length (nodes_met c.args.problem.now) = c.len-in-nodes.ensures.once (nodes_met c.args.problem.now)
    (λ node there. c.nodes.invariant.0.met node (subst (λ (g : Gathered). Contains g.nodes node) c.self.view_is there)) in
    let pushed : vec_len c.push.new.self ≡ count + 1 = c.in_ok-push.ensures.len in
    omega arith
