use Rattle.std.proofs.Common.{ℕ, List, subst}
use Rattle.exports.specs.Tied.JointPackages.{AreOn}
use Rattle.exports.proofs.JointEntries.{names-more, names-whole}
use Rattle.exports.proofs.joint_packages.needs_of.Goals as goal

pub loop-name-preserved : goal.loop-name-preserved
loop-name-preserved c =
    names-more c.dependencies-names.result.now c.loop-name.name-index c.name-item.result c.loop-name.needs.items c.refer_on.new.needs.items c.loop-name-test.true c.name-item.is c.loop-name.invariant
    c.in_ok-refer_on.ensures.refers c.in_ok-refer_on.ensures.some

pub returns : goal.returns
returns c =
    rw c.from_vec.ensures
    (subst (λ (names : List (List ℕ)). AreOn names c.loop-name.needs.items) c.dependencies-names.ensures
    (names-whole c.dependencies-names.result.now c.loop-name.name-index c.loop-name.needs.items c.loop-name-test.false c.loop-name.invariant))
