use Rattle.std.proofs.Common.{inr, refl, sym}
use Rattle.std.proofs.lemmas.Result.{err_from_is_err_and}
use Rattle.edits.proofs.EditFacts.{IsAccepted, changes, nothing-changes, refused-so}
use Rattle.edits.proofs.edit_result.edit.Goals as goal

pub returns-in_err-edited-clause-err : goal.returns-in_err-edited-clause-err
returns-in_err-edited-clause-err g c =
    let accepted : IsAccepted c.args.state.now c.args.edit.now c.args.pool.now c.in_ok-lines.lines c.in_ok-targets.targets =
    record { lines_are = rw c.lines.ensures at c.in_ok-lines.ensures; locks = c.in_ok-targets.ensures.accepted; kept = c.in_ok-targets.ensures.kept } in
    let p = err_from_is_err_and c.from_residual-in_err-edited.result c.from_residual-in_err-edited.ensures.1 in
    rw (p.1, p.2) (refused-so c.args.state.now c.args.edit.now c.args.pool.now c.in_ok-lines.lines c.in_ok-targets.targets accepted c.in_err-edited.field-0.0 c.in_err-edited.ensures.err)

pub returns-then-is_empty-clause-err : goal.returns-then-is_empty-clause-err
returns-then-is_empty-clause-err g c =
    let accepted : IsAccepted c.args.state.now c.args.edit.now c.args.pool.now c.in_ok-lines.lines c.in_ok-targets.targets =
    record { lines_are = rw c.lines.ensures at c.in_ok-lines.ensures; locks = c.in_ok-targets.ensures.accepted; kept = c.in_ok-targets.ensures.kept } in
    let same = sym (c.in_ok-change.ensures.empty.0 (c.if-is_empty.ensures.0 refl)) in
    inr (nothing-changes c.args.state.now c.args.edit.now c.args.pool.now c.in_ok-lines.lines c.in_ok-targets.targets accepted c.in_ok-edited.edited c.in_ok-edited.ensures.ok.0 same)

pub returns-clause-ok : goal.returns-clause-ok
returns-clause-ok g c =
    let accepted : IsAccepted c.args.state.now c.args.edit.now c.args.pool.now c.in_ok-lines.lines c.in_ok-targets.targets =
    record { lines_are = rw c.lines.ensures at c.in_ok-lines.ensures; locks = c.in_ok-targets.ensures.accepted; kept = c.in_ok-targets.ensures.kept } in
    changes c.args.state.now c.args.edit.now c.args.pool.now c.in_ok-lines.lines c.in_ok-targets.targets accepted c.in_ok-edited.edited c.in_ok-edited.ensures.ok.0
    (λ same. let empty = c.if-is_empty.ensures.1 (c.in_ok-change.ensures.empty.1 (sym same)) in cc empty)
