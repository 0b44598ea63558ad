use Rattle.std.proofs.Common.{◌∙◌, ◌++◌, codes}
use Rattle.commands.specs.Replies.{word_of}
use Rattle.commands.proofs.Batches.{appends_append}
use Rattle.reports.proofs.Printed.{cut-off-before, cut-off-behind, on-err}
use Rattle.reports.proofs.report.print_refusal.Goals as goal

pub returns-in_err-print-clause-cut_off : goal.returns-in_err-print-clause-cut_off
returns-in_err-print-clause-cut_off g c =
    let word = word_of c.args.refusal.now in
    on-err c.from_residual.result _ (cut-off-before (codes "refused ") (word ++ codes "\n") _ _ c.in_err-print.ensures.cut_off)

pub returns-in_err-print-2-clause-cut_off : goal.returns-in_err-print-2-clause-cut_off
returns-in_err-print-2-clause-cut_off g c =
    let word = word_of c.args.refusal.now in
    let is = c.as_bytes.ensures.value ∙ c.refusal_word.ensures.word in
    let cut = cut-off-before word (codes "\n") _ _ (rw is at c.in_err-print-2.ensures.cut_off) in
    on-err c.from_residual-in_err-print-2.result _ (cut-off-behind (codes "refused ") (word ++ codes "\n") _ _ _ c.in_ok-print.ensures.bytes cut)

pub returns-in_err-print-3-clause-cut_off : goal.returns-in_err-print-3-clause-cut_off
returns-in_err-print-3-clause-cut_off g c =
    let word = word_of c.args.refusal.now in
    let is = c.as_bytes.ensures.value ∙ c.refusal_word.ensures.word in
    let whole = appends_append _ _ _ (codes "refused ") word c.in_ok-print.ensures.bytes (rw is at c.in_ok-print-2.ensures.bytes) in
    on-err c.from_residual-in_err-print-3.result _ (cut-off-behind (codes "refused " ++ word) (codes "\n") _ _ _ whole c.in_err-print-3.ensures.cut_off)
