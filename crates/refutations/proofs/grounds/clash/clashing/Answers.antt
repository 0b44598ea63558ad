use Rattle.std.proofs.Common.{sym}
use Rattle.problems.specs.Rules.{wants}
use Rattle.refutations.proofs.Grounded.{clash-ground, found-fails, unclashed}
use Rattle.problems.proofs.Deciding.{found-none}
use Rattle.refutations.proofs.grounds.clash.clashing.Goals as goal

pub returns-in_err-one : goal.returns-in_err-one
returns-in_err-one c = rw c.from_residual.ensures (unclashed c.args.problem.now c.args.conflict.now (sym c.in_err-one.ensures))

pub returns-in_err-wanted : goal.returns-in_err-wanted
returns-in_err-wanted c =
    let one = c.in_ok-one.one.now in
    absurd (found-fails _ c.args.conflict.now one (sym c.in_ok-one.ensures) (found-none _ (wants c.args.problem.now one.node one.version) (sym c.in_err-wanted.ensures)))

pub returns-in_err-other : goal.returns-in_err-other
returns-in_err-other c =
    let one = c.in_ok-one.one.now in
    absurd (found-fails _ (wants c.args.problem.now one.node one.version) c.in_ok-wanted.wanted.now (sym c.in_ok-wanted.ensures) (found-none _ c.args.conflict.now (sym c.in_err-other.ensures)))

pub returns : goal.returns
returns c = λ earlier. clash-ground c.args.problem.now c.args.conflict.now c.in_ok-one.one.now c.in_ok-wanted.wanted.now c.in_ok-other.other.now (sym c.in_ok-one.ensures) (sym c.in_ok-wanted.ensures) (sym c.in_ok-other.ensures)
