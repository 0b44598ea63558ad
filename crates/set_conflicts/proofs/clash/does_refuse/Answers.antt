use Rattle.std.proofs.Common.{Contains, subst}
use Rattle.set_conflicts.proofs.clash.does_refuse.Goals as goal

pub does_any_refuse-requires-clause-known : goal.does_any_refuse-requires-clause-known
does_any_refuse-requires-clause-known c = λ r i. c.wants-wants.ensures.known r (subst (λ rs. Contains rs r) c.wants-wants.ensures.wants i)
