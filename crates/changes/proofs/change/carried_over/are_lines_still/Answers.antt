use Rattle.std.proofs.Common.{refl}
use Rattle.changes.proofs.EndedLines.{lines-read, lines-still}
use Rattle.changes.proofs.change.carried_over.are_lines_still.Goals as goal

pub returns-then-is_each_ended-clause-lines : goal.returns-then-is_each_ended-clause-lines
returns-then-is_each_ended-clause-lines c =
    let ends = c.if-is_each_ended.ensures refl in
    let is = c.requires.3 in
    let each = rw c.as_slice-lines.ensures at c.recall_invariants.ensures in
    ((λ h. lines-still c.requires.1 c.requires.0 c.args.made.now c.requires.2 is (is.ended ends.0) ends.1 each), (λ are. refl))

pub returns-then-is_each_ended-clause-read : goal.returns-then-is_each_ended-clause-read
returns-then-is_each_ended-clause-read c = λ h.
    let ends = c.if-is_each_ended.ensures refl in
    let is = c.requires.3 in
    let each = rw c.as_slice-lines.ensures at c.recall_invariants.ensures in
    lines-read c.requires.1 c.requires.0 c.args.made.now c.requires.2 is (is.ended ends.0) ends.1 each
