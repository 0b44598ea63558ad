use Rattle.std.proofs.Common.{List, Contains, subst, sym, take}
use Rattle.pep508.specs.Requirement.{RequirementParts}
use Rattle.problems.specs.Tied.Standing.{AllStand}
use Rattle.resolve.proofs.Gathered.{AreWants-longer, grown-then}
use Rattle.resolve.proofs.Standing.{AllZip-more_same}
use Rattle.resolve.proofs.gathered_nodes.Gathering.ask_releases.Goals as goal

pub loop-wanted-preserved : goal.loop-wanted-preserved
loop-wanted-preserved c =
    let grown = c.in_ok-numbers.ensures.grown in (
      c.in_ok-numbers.ensures.entries,
      grown-then c.args.self.now c.loop-wanted.self c.ask_release.new.self c.loop-wanted.invariant.1 grown,
      AllZip-more_same (AllStand c.ask_release.new.self.asked) c.loop-wanted.rows.items c.push.new.self.items c.args.releases.now c.loop-wanted.wanted-index c.in_ok-numbers.numbers c.wanted-item.result c.loop-wanted-test.true c.wanted-item.is c.in_ok-push.ensures.items
          (AreWants-longer c.loop-wanted.self.asked c.ask_release.new.self.asked grown.asked_more c.loop-wanted.rows.items (take c.loop-wanted.wanted-index c.args.releases.now) c.loop-wanted.invariant.2)
          (subst (λ (wanted : List RequirementParts). AllStand c.ask_release.new.self.asked c.in_ok-numbers.numbers wanted) c.as_slice.ensures c.in_ok-numbers.ensures.numbers),
    )

pub ask_release-requires-clause-met : goal.ask_release-requires-clause-met
ask_release-requires-clause-met c = λ asked there.
    c.requires.met c.wanted-item.result (c.loop-wanted.wanted-index, c.loop-wanted-test.true, sym c.wanted-item.is) asked (subst (λ (wanted : List RequirementParts). Contains wanted asked) c.as_slice.ensures there)
