use Rattle.std.proofs.Common.{Contains, subst}
use Rattle.set_conflicts.proofs.need.does_want.Goals as goal

pub does_any_require-requires : goal.does_any_require-requires
does_any_require-requires c = λ r i. c.wants-wants.ensures.known r (subst (λ rs. Contains rs r) c.wants-wants.ensures.wants i)
