use Rattle.std.proofs.lemmas.Result.{err_from_is_err_and}
use Rattle.edits.proofs.Refusals.{first-on}
use Rattle.edits.proofs.exchanged_line.exchanged_name.Goals as goal

pub returns-in_err-name : goal.returns-in_err-name
returns-in_err-name c =
    let p = err_from_is_err_and c.from_residual.result c.from_residual.ensures.1 in
    rw (p.1, p.2) (first-on _ _ _ _ c.in_err-name.field-0.0 c.in_err-name.ensures)
