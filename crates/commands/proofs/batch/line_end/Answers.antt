use Rattle.commands.proofs.Lines.{line_end_none, line_end_line}
use Rattle.commands.proofs.batch.line_end.Goals as goal

pub returns-clause-none : goal.returns-clause-none
returns-clause-none c = line_end_none c.args.bytes.now c.memchr.result c.memchr.ensures

pub returns-clause-line : goal.returns-clause-line
returns-clause-line c = line_end_line c.args.bytes.now c.memchr.result c.memchr.ensures
