use Rattle.std.proofs.Common.{Option, inl, inr, subst}
use Rattle.std.proofs.lemmas.Result.{err_from_is_err_and}
use Rattle.std.specs.Prelude.{◌≢◌, MatchOption}
use Rattle.std.specs.List.{AllByRecursion}
use Rattle.clap.specs.Words.{found_of, rows_of}
use Rattle.command_line.specs.Options.{json_takers}
use Rattle.command_line.specs.Subcommands.{IsAskedEdit, IsSubcommand, MakesNoEdit}
use Rattle.command_line.specs.declared.invocation.AskedEdit.{AskedEdit}
use Rattle.command_line.specs.declared.invocation.Subcommand.{Subcommand}
use Rattle.command_line.proofs.Lacking.{edit_needs_index, index_lacks, input_lacks, no_question_lacks}
use Rattle.command_line.proofs.subcommand.read_subcommand.Goals as goal

pub returns-in_err-options-clause-fault : goal.returns-in_err-options-clause-fault
returns-in_err-options-clause-fault c =
    let before = rows_of (found_of c.args.before.now) in
    let behind = rows_of (found_of c.args.behind.now) in
    let P : Option AskedEdit → Type 0 = λ asked. MatchOption asked (MakesNoEdit c.args.name.now behind) (IsAskedEdit before behind c.args.name.now) in
    let asked = subst P c.in-Some.is c.in_ok-asked.ensures.asked in
    let p = err_from_is_err_and c.from_residual-in_err-options.result c.from_residual-in_err-options.ensures.1 in
    rw (p.1, p.2) (index_lacks before behind c.args.name.now _ (edit_needs_index before behind c.args.name.now _ asked) c.in_err-options.ensures.missing)

pub returns-in_err-needed_init_options-in-try-clause-fault : goal.returns-in_err-needed_init_options-in-try-clause-fault
returns-in_err-needed_init_options-in-try-clause-fault c =
    let before = rows_of (found_of c.args.before.now) in
    let behind = rows_of (found_of c.args.behind.now) in
    let p = err_from_is_err_and c.from_residual-in_err-needed_init_options-in-try.result c.from_residual-in_err-needed_init_options-in-try.ensures.1 in
    rw (p.1, p.2) (input_lacks before behind c.args.name.now _ (inr (inl c.in-try.is)) (inr (inl c.in-try.is)) c.in_err-needed_init_options-in-try.ensures.missing)

pub returns-in_err-needed_edit_options-in-batch-clause-fault : goal.returns-in_err-needed_edit_options-in-batch-clause-fault
returns-in_err-needed_edit_options-in-batch-clause-fault c =
    let before = rows_of (found_of c.args.before.now) in
    let behind = rows_of (found_of c.args.behind.now) in
    let p = err_from_is_err_and c.from_residual-in_err-needed_edit_options-in-batch.result c.from_residual-in_err-needed_edit_options-in-batch.ensures.1 in
    rw (p.1, p.2) (index_lacks before behind c.args.name.now _ (inr (inr (inl c.in-batch.is))) c.in_err-needed_edit_options-in-batch.ensures.missing)

pub returns-in_err-needed_index-in-skipped-clause-fault : goal.returns-in_err-needed_index-in-skipped-clause-fault
returns-in_err-needed_index-in-skipped-clause-fault c =
    let before = rows_of (found_of c.args.before.now) in
    let behind = rows_of (found_of c.args.behind.now) in
    let p = err_from_is_err_and c.from_residual-in_err-needed_index-in-skipped.result c.from_residual-in_err-needed_index-in-skipped.ensures.1 in
    rw (p.1, p.2) (index_lacks before behind c.args.name.now _ (inr (inr (inr (inl c.in-skipped.is)))) c.in_err-needed_index-in-skipped.ensures.missing)

pub returns-in_err-question-in-why-clause-fault : goal.returns-in_err-question-in-why-clause-fault
returns-in_err-question-in-why-clause-fault c =
    let before = rows_of (found_of c.args.before.now) in
    let behind = rows_of (found_of c.args.behind.now) in
    let p = err_from_is_err_and c.from_residual-in_err-question-in-why.result c.from_residual-in_err-question-in-why.ensures.1 in
    rw (p.1, p.2) (no_question_lacks before behind c.args.name.now _ c.in-why.is c.in_err-question-in-why.ensures.fault)

pub returns-in_default-name-clause-fault : goal.returns-in_default-name-clause-fault
returns-in_default-name-clause-fault c =
    let before = rows_of (found_of c.args.before.now) in
    let behind = rows_of (found_of c.args.behind.now) in
    let P : Option Subcommand → Type 0 = λ view. MatchOption view (AllByRecursion (λ known. c.args.name.now ≢ known) json_takers) (IsSubcommand before behind c.args.name.now) in
    let views = subst P c.in_default-2.is c.in_ok-view.ensures.subcommand in
    let Q : Option AskedEdit → Type 0 = λ asked. MatchOption asked (MakesNoEdit c.args.name.now behind) (IsAskedEdit before behind c.args.name.now) in
    let no_edit = subst Q c.in_default.is c.in_ok-asked.ensures.asked in
    let d = c.in_default-name in
    (no_edit.0, (d.not-init, (no_edit.1, (no_edit.2, (d.not-undo, (d.not-redo, (d.not-forget, (d.not-batch, (d.not-try, (views.0, (views.1.0, (views.1.1.0, (views.1.1.1.0, (views.1.1.1.1.0, (d.not-export, (d.not-skipped, (d.not-why, tt)))))))))))))))))
