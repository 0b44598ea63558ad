use Rattle.search.specs.Solutions.{by_line}
use Rattle.set_conflicts.proofs.justification.is_needed_for.Goals as goal

pub returns-in-Line : goal.returns-in-Line
returns-in-Line c = λ t pins k s sol has. let line = c.do_lines_need.ensures t in by_line line.0 c.args.node line.1 line.2
