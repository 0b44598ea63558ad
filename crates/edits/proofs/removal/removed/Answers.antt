use Rattle.std.proofs.lemmas.Result.{err_from_is_err_and}
use Rattle.std.proofs.Common.{refl}
use Rattle.edits.proofs.Refusals.{accepted, refused-on}
use Rattle.edits.proofs.removal.removed.Goals as goal

pub returns-in_err-name : goal.returns-in_err-name
returns-in_err-name c =
    let p = err_from_is_err_and c.from_residual.result c.from_residual.ensures.1 in
    rw (p.1, p.2) (refused-on _ _ _ c.in_err-name.field-0.0 (rw c.lines.ensures at c.in_err-name.ensures))

pub returns : goal.returns
returns c =
    let k = accepted _ _ c.in_ok-name.name (rw c.lines.ensures at c.in_ok-name.ensures) in
    rw (k.0, k.1, c.from_lines.ensures, c.in_ok-lines.ensures, c.lines-2.ensures) refl
