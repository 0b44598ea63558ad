use Rattle.std.proofs.Common.{◌≤◌, arith, length}
use Rattle.problems.specs.Problem.{requirements}
use Rattle.states.specs.Tied.LockForLines.{names_met}
use Rattle.states.proofs.ReachFacts.{AreReached-from, IsFollowed-next, IsFollowed-start, reached-met}
use Rattle.states.proofs.state.reach.reached_names.Goals as goal

pub loop-followed-init : goal.loop-followed-init
loop-followed-init c =
    let grown = rw c.new-names.ensures at c.in_ok-add_lines.ensures in
    IsFollowed-start (requirements c.args.environment.now c.args.lines.now) c.args.entries.now c.add_lines.new.names grown

pub loop-followed-preserved : goal.loop-followed-preserved
loop-followed-preserved c =
    IsFollowed-next (requirements c.args.environment.now c.args.lines.now) c.args.entries.now c.loop-followed.names c.follow.new.names c.loop-followed.followed
    (let e = c.len.ensures.count in let t = c.loop-followed-test.true in omega arith) c.loop-followed.invariant c.in_ok-follow.ensures

pub returns : goal.returns
returns c =
    (AreReached-from (requirements c.args.environment.now c.args.lines.now) c.args.entries.now c.loop-followed.names c.loop-followed.followed c.requires (let e = c.len.ensures.count in let t = c.loop-followed-test.false in omega arith) c.loop-followed.invariant)

pub loop-followed-smaller : goal.loop-followed-smaller
loop-followed-smaller c =
    let active = requirements c.args.environment.now c.args.lines.now in
    let few : length c.loop-followed.names ≤ length (names_met active c.args.entries.now) = c.len.ensures.once (names_met active c.args.entries.now) (λ name there. reached-met active c.args.entries.now name (c.loop-followed.invariant.sound name there)) in
    let count = c.len.ensures.count in
    let below = c.loop-followed-test.true in
    omega arith
