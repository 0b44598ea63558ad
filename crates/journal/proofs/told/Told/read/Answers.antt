use Rattle.std.proofs.lemmas.Result.{err_from_is_err_and}
use Rattle.journal.proofs.WhatIsTold.{all-told, environments-refused, steps-refused}
use Rattle.journal.proofs.told.Told.read.Goals as goal

pub returns-in_err-check_environments : goal.returns-in_err-check_environments
returns-in_err-check_environments c =
    let p = err_from_is_err_and c.from_residual-in_err-check_environments.result c.from_residual-in_err-check_environments.ensures.1 in
    rw (p.1, p.2)
    (environments-refused c.args.locks.now.entries c.args.journal.now (c.in_ok-header.field-0.header.now, c.in_ok-header.field-0.steps.now) c.as_slice.result.now c.in_ok-targets.targets c.as_slice-2.result.now c.in_ok-header.ensures
    c.in_ok-check_locks.ensures c.as_slice.ensures c.in_ok-targets.ensures c.as_slice-2.ensures c.in_err-check_environments.field-0.0 c.in_err-check_environments.ensures)

pub returns-in_err-changes : goal.returns-in_err-changes
returns-in_err-changes c =
    let p = err_from_is_err_and c.from_residual-in_err-changes.result c.from_residual-in_err-changes.ensures.1 in
    rw (p.1, p.2)
    (steps-refused c.args.locks.now.entries c.args.journal.now (c.in_ok-header.field-0.header.now, c.in_ok-header.field-0.steps.now) c.as_slice.result.now c.in_ok-targets.targets c.as_slice-2.result.now c.in_ok-header.ensures
    c.in_ok-check_locks.ensures c.as_slice.ensures c.in_ok-targets.ensures c.as_slice-2.ensures c.in_ok-check_environments.ensures c.in_err-changes.field-0.0 c.in_err-changes.ensures)

pub returns : goal.returns
returns c =
    all-told c.args.locks.now.entries c.args.journal.now (c.in_ok-header.field-0.header.now, c.in_ok-header.field-0.steps.now) c.as_slice.result.now c.in_ok-targets.targets c.as_slice-2.result.now c.in_ok-header.ensures
    c.in_ok-check_locks.ensures c.as_slice.ensures c.in_ok-targets.ensures c.as_slice-2.ensures c.in_ok-check_environments.ensures c.in_ok-changes.changes c.in_ok-changes.ensures
