use Rattle.std.proofs.Common.{inl, inr}
use Rattle.std.proofs.lemmas.Result.{err_from_is_err_and}
use Rattle.clap.specs.Words.{found_of, rows_of}
use Rattle.command_line.proofs.Lacking.{input_lacks}
use Rattle.command_line.proofs.edit_words.read_asked_edit.Goals as goal

pub returns-in_err-targets-in-retarget-clause-fault : goal.returns-in_err-targets-in-retarget-clause-fault
returns-in_err-targets-in-retarget-clause-fault c =
    let before = rows_of (found_of c.args.before.now) in
    let behind = rows_of (found_of c.args.behind.now) in
    let p = err_from_is_err_and c.from_residual-in_err-targets-in-retarget.result c.from_residual-in_err-targets-in-retarget.ensures.1 in
    rw (p.1, p.2) (input_lacks before behind c.args.name.now _ (inr (inr (inr (inr (inr (inr (inr (inl c.in-retarget.is)))))))) (inr (inr (inl c.in-retarget.is))) c.in_err-targets-in-retarget.ensures.missing)
