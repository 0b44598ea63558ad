use Rattle.std.proofs.Common.{ℕ, List, map, take, subst, arith}
use Rattle.std.proofs.lemmas.Grind.{common_steps}
use Rattle.problems.specs.Rules.{with_extra}
use Rattle.problems.specs.Tied.Standing.{IsWith, Stands}
use Rattle.resolve.proofs.Gathered.{only-all, only-more}
use Rattle.resolve.proofs.Standing.{AllStand-longer, AllZip-more, longer-then}
use Rattle.resolve.proofs.gathered_nodes.extras_of.Goals as goal

pub loop-extra-preserved : goal.loop-extra-preserved
loop-extra-preserved c =
    let stands : Stands c.number_of.new.self c.in_ok-number.number (with_extra c.args.wanted.now.name c.extra-item.result) = subst (λ name. Stands c.number_of.new.self c.in_ok-number.number (with_extra name c.extra-item.result)) c.name.ensures c.in_ok-number.ensures.number in (
      longer-then c.args.nodes.now c.loop-extra.nodes c.number_of.new.self c.loop-extra.invariant.0 c.in_ok-number.ensures.longer,
      AllZip-more (Stands c.number_of.new.self) (with_extra c.args.wanted.now.name) c.loop-extra.numbers.items c.push.new.self.items c.extras-extras.result.now c.loop-extra.extra-index c.in_ok-number.number c.extra-item.result c.loop-extra-test.true c.extra-item.is c.in_ok-push.ensures.items
          (AllStand-longer c.loop-extra.nodes c.number_of.new.self c.loop-extra.numbers.items (map (with_extra c.args.wanted.now.name) (take c.loop-extra.extra-index c.extras-extras.result.now)) c.in_ok-number.ensures.longer c.loop-extra.invariant.1) stands,
      only-more (with_extra c.args.wanted.now.name) c.args.nodes.now c.loop-extra.nodes c.number_of.new.self c.extras-extras.result.now c.loop-extra.extra-index c.extra-item.result c.loop-extra-test.true c.extra-item.is c.loop-extra.invariant.2
          (subst (λ (name : List ℕ). IsWith (with_extra name c.extra-item.result) c.loop-extra.nodes c.number_of.new.self) c.name.ensures c.in_ok-number.ensures.only),
    )

pub returns-clause-longer : goal.returns-clause-longer
returns-clause-longer c = c.loop-extra.invariant.0

pub returns-clause-only : goal.returns-clause-only
returns-clause-only c =
    rw c.extras-extras.ensures at (only-all (with_extra c.args.wanted.now.name) c.args.nodes.now c.loop-extra.nodes c.extras-extras.result.now c.loop-extra.extra-index (omega arith) c.loop-extra.invariant.2)

pub returns-clause-numbers : goal.returns-clause-numbers
returns-clause-numbers c = grind (arith, common_steps)
