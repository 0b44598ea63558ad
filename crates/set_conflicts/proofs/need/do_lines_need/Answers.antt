use Rattle.std.proofs.Common.{Contains, subst}
use Rattle.set_conflicts.proofs.need.do_lines_need.Goals as goal

pub does_any_require-requires : goal.does_any_require-requires
does_any_require-requires c = λ r i. c.lines-lines.ensures.known r (subst (λ rs. Contains rs r) c.lines-lines.ensures.lines i)
