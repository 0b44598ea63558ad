use Rattle.edits.proofs.Additions.{AreLines-after}
use Rattle.edits.proofs.addition.with_line.Goals as goal

pub from_lines-requires : goal.from_lines-requires
from_lines-requires c =
    let are = c.a_file_reads_as_lines.ensures _ c.args.file.now c.recall_invariant.ensures in
    rw (c.in_ok-lines_with.ensures, c.lines.ensures) (AreLines-after c.lines_may_get_one_more.ensures.first c.lines_may_get_one_more.ensures.next c.args.file.now c.args.line are c.requires)
