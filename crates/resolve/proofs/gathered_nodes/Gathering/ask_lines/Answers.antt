use Rattle.std.proofs.Common.{◌∙◌, List, Contains, ap, sym, subst, take, arith}
use Rattle.std.proofs.lemmas.Grind.{common_steps}
use Rattle.pep508.specs.Requirement.{RequirementParts}
use Rattle.problems.specs.Problem.{ProblemParts}
use Rattle.problems.specs.Tied.Standing.{Stands}
use Rattle.resolve.proofs.Gathered.{line-met}
use Rattle.resolve.proofs.Standing.{AllStand-longer, AllZip-more_same}
use Rattle.resolve.proofs.gathered_nodes.Gathering.ask_lines.Goals as goal

pub loop-wanted-preserved : goal.loop-wanted-preserved
loop-wanted-preserved c =
    let lines = c.as_slice-lines.result.now in
    let seen = take c.loop-wanted.wanted-index lines in (
      c.in_ok-number.ensures.entries,
      AllZip-more_same (Stands c.ask.new.self.asked) c.loop-wanted.numbers.items c.push.new.self.items lines c.loop-wanted.wanted-index c.in_ok-number.number c.wanted-item.result c.loop-wanted-test.true c.wanted-item.is c.in_ok-push.ensures.items
          (AllStand-longer c.loop-wanted.self.asked c.ask.new.self.asked c.loop-wanted.numbers.items seen c.in_ok-number.ensures.grown.asked_more c.loop-wanted.invariant.1) c.in_ok-number.ensures.number,
    )

pub returns : goal.returns
returns c = grind (arith, common_steps)

pub ask-requires-clause-met : goal.ask-requires-clause-met
ask-requires-clause-met c =
    let lines = c.as_slice-lines.ensures ∙ ap (λ (given : ProblemParts). given.active) c.problem.view_is in
    line-met c.args.problem.now c.wanted-item.result (subst (λ (wanted : List RequirementParts). Contains wanted c.wanted-item.result) lines (c.loop-wanted.wanted-index, c.loop-wanted-test.true, sym c.wanted-item.is))
