use Rattle.std.proofs.Common.{◌∷◌, [], subst}
use Rattle.exports.specs.Tied.Reach.{Gathers}
use Rattle.exports.proofs.AskedRequirements.{each-itself, gathers-all, gathers-next, gathers-nothing}
use Rattle.exports.proofs.reach.gather_each.Goals as goal

pub loop-requirement-init : goal.loop-requirement-init
loop-requirement-init c = gathers-nothing c.args.asked.now

pub loop-requirement-preserved : goal.loop-requirement-preserved
loop-requirement-preserved c =
    gathers-next (λ x. x ∷ []) c.args.wanted.now c.loop-requirement.requirement-index c.requirement-item.result c.args.asked.now c.loop-requirement.asked c.gather.new.asked
    c.loop-requirement-test.true c.requirement-item.is c.loop-requirement.invariant c.in_ok-gather.ensures

pub returns : goal.returns
returns c =
    subst (Gathers c.args.asked.now c.loop-requirement.asked) (each-itself c.args.wanted.now)
    (gathers-all (λ x. x ∷ []) c.args.wanted.now c.loop-requirement.requirement-index c.args.asked.now c.loop-requirement.asked c.loop-requirement-test.false c.loop-requirement.invariant)
