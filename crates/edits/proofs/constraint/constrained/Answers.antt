use Rattle.std.proofs.lemmas.Result.{err_from_is_err_and}
use Rattle.std.proofs.Common.{refl}
use Rattle.edits.proofs.ChangedLines.{AreLines-with_set}
use Rattle.edits.proofs.Refusals.{accepted, read-so, refused-on}
use Rattle.edits.proofs.constraint.constrained.Goals as goal

pub returns-in_err-name : goal.returns-in_err-name
returns-in_err-name c =
    let p = err_from_is_err_and c.from_residual-in_err-name.result c.from_residual-in_err-name.ensures.1 in
    let set = read-so _ _ c.in_ok-specifiers.specifiers c.in_ok-specifiers.ensures in
    rw (p.1, p.2, set.0) (refused-on _ _ _ c.in_err-name.field-0.0 (rw c.lines.ensures at c.in_err-name.ensures))

pub from_lines-requires : goal.from_lines-requires
from_lines-requires c =
    let are = c.a_file_reads_as_lines.ensures _ c.args.file.now c.recall_invariant.ensures in
    rw (c.in_ok-lines.ensures, c.lines-2.ensures)
    (AreLines-with_set c.a_line_may_get_specifiers.ensures c.lines_may_be_exchanged.ensures c.in_ok-name.name c.in_ok-specifiers.specifiers c.args.file.now
    c.text-set.ensures.reads are)

pub returns : goal.returns
returns c =
    let set = read-so _ _ c.in_ok-specifiers.specifiers c.in_ok-specifiers.ensures in
    let k = accepted _ _ c.in_ok-name.name (rw c.lines.ensures at c.in_ok-name.ensures) in
    rw (set.0, set.1, k.0, k.1, c.from_lines.ensures, c.in_ok-lines.ensures, c.lines-2.ensures) refl
