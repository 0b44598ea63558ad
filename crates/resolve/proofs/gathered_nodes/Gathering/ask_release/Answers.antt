use Rattle.std.proofs.Common.{map, sym, take, arith}
use Rattle.std.proofs.lemmas.Grind.{common_steps}
use Rattle.lists.proofs.Members.{Contains-map_of}
use Rattle.problems.specs.Tied.Standing.{Stands}
use Rattle.resolve.proofs.Gathered.{grown-then}
use Rattle.resolve.proofs.Standing.{AllStand-longer, AllZip-more}
use Rattle.resolve.proofs.gathered_nodes.Gathering.ask_release.Goals as goal

pub loop-requirement-preserved : goal.loop-requirement-preserved
loop-requirement-preserved c =
    let grown = c.in_ok-number.ensures.grown in (
      c.in_ok-number.ensures.entries,
      grown-then c.args.self.now c.loop-requirement.self c.ask.new.self c.loop-requirement.invariant.1 grown,
      AllZip-more (Stands c.ask.new.self.asked) (λ w. w.now) c.loop-requirement.numbers.items c.push.new.self.items c.args.wanted.now c.loop-requirement.requirement-index c.in_ok-number.number c.requirement-item.result c.loop-requirement-test.true c.requirement-item.is c.in_ok-push.ensures.items
          (AllStand-longer c.loop-requirement.self.asked c.ask.new.self.asked c.loop-requirement.numbers.items (map (λ w. w.now) (take c.loop-requirement.requirement-index c.args.wanted.now)) grown.asked_more c.loop-requirement.invariant.2) c.in_ok-number.ensures.number,
    )

pub returns : goal.returns
returns c = grind (arith, common_steps)

pub ask-requires-clause-met : goal.ask-requires-clause-met
ask-requires-clause-met c =
    c.requires.met c.requirement-item.result.now (Contains-map_of (λ w. w.now) c.args.wanted.now c.requirement-item.result (c.loop-requirement.requirement-index, c.loop-requirement-test.true, sym c.requirement-item.is))
