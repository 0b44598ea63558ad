use Rattle.std.proofs.Common.{sym}
use Rattle.journal_format.proofs.FormFacts.{cut_line-at, cut_line-none}
use Rattle.journal_format.proofs.lines.cut_line.Goals as goal

pub returns-in-Some : goal.returns-in-Some
returns-in-Some c = cut_line-at c.args.bytes.now c.in-Some.place (sym c.in-Some.ensures.place)

pub returns-in-None : goal.returns-in-None
returns-in-None c = cut_line-none c.args.bytes.now (sym c.in-None.ensures.place)
