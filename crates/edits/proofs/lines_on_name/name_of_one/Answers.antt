use Rattle.std.proofs.Common.{Ok, ap, arith, inr, refl}
use Rattle.std.proofs.lemmas.Result.{err_from_is_err_and}
use Rattle.edits.proofs.LinesOnName.{refused-at, refused-many}
use Rattle.edits.proofs.Refusals.{bad-on}
use Rattle.edits.proofs.lines_on_name.name_of_one.Goals as goal

pub returns-in_err-name : goal.returns-in_err-name
returns-in_err-name c =
    let p = err_from_is_err_and c.from_residual.result c.from_residual.ensures.1 in
    rw (p.1, p.2) (bad-on _ _ _ _ c.in_err-name.field-0.0 c.in_err-name.ensures)

pub returns-in-0 : goal.returns-in-0
returns-in-0 c =
    let k = refused-at c.args.lines.now c.args.text.now c.in_ok-name.name c.count_on.result c.in_ok-name.ensures c.count_on.ensures in
    inr (rw (k.0, c.in-0.is) refl)

pub returns-in-1 : goal.returns-in-1
returns-in-1 c =
    let k = refused-at c.args.lines.now c.args.text.now c.in_ok-name.name c.count_on.result c.in_ok-name.ensures c.count_on.ensures in
    rw (k.0, c.in-1.is) (ap (λ n. Ok n) k.1)

pub returns-in_default : goal.returns-in_default
returns-in_default c =
    let k = refused-at c.args.lines.now c.args.text.now c.in_ok-name.name c.count_on.result c.in_ok-name.ensures c.count_on.ensures in
    let many = refused-many c.count_on.result (omega arith) (omega arith) in
    inr (rw (k.0, many) refl)
