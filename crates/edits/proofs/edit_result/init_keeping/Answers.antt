use Rattle.std.proofs.Common.{◌≡◌, ◌⊎◌, IfErr, IfOk, None, Ok, Err, subst}
use Rattle.states.specs.declared.refusal.Refusal.TheVariants.{OutOfMemory}
use Rattle.edits.specs.Edits.{Locks}
use Rattle.edits.proofs.KeepFacts.{givens-first}
use Rattle.edits.proofs.edit_result.init_keeping.Goals as goal

pub returns-clause-ok : goal.returns-clause-ok
returns-clause-ok g c =
    let givens = givens-first c.args.lines c.args.first.pins c.args.snapshot.now c.whole.result c.args.first.targets c.in_ok-targets.targets c.whole.ensures c.in_ok-targets.ensures.kept in
    subst (λ all. IfOk c.with_locks.result (λ state. Locks None all c.args.lines (Ok state))) givens c.with_locks.ensures.ok

pub returns-clause-err : goal.returns-clause-err
returns-clause-err g c =
    let givens = givens-first c.args.lines c.args.first.pins c.args.snapshot.now c.whole.result c.args.first.targets c.in_ok-targets.targets c.whole.ensures c.in_ok-targets.ensures.kept in
    subst (λ all. IfErr c.with_locks.result (λ refusal. (refusal ≡ OutOfMemory) ⊎ Locks None all c.args.lines (Err refusal))) givens c.with_locks.ensures.err
