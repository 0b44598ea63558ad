use Rattle.std.proofs.Common.{sym}
use Rattle.refutations.proofs.Grounded.{differ-ground, found-fails, undiffering}
use Rattle.problems.proofs.Deciding.{found-none}
use Rattle.refutations.proofs.grounds.difference.differing.Goals as goal

pub returns-in_err-one : goal.returns-in_err-one
returns-in_err-one c = rw c.from_residual.ensures (λ given. undiffering given c.args.conflict.now (sym c.in_err-one.ensures))

pub returns-in_err-other : goal.returns-in_err-other
returns-in_err-other c = absurd (found-fails _ c.args.conflict.now c.in_ok-one.one.now (sym c.in_ok-one.ensures) (found-none _ c.args.conflict.now (sym c.in_err-other.ensures)))

pub returns : goal.returns
returns c = λ given earlier. differ-ground given c.args.conflict.now c.in_ok-one.one.now c.in_ok-other.other.now (sym c.in_ok-one.ensures) (sym c.in_ok-other.ensures)
