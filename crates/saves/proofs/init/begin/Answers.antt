use Rattle.std.proofs.Common.{refl}
use Rattle.saves.proofs.init.begin.Goals as goal

pub returns-clause-begins : goal.returns-clause-begins
returns-clause-begins g c = (
  c.in_ok-files.field-0.lines,
  c.in_ok-files.field-0.first,
  c.in_ok-files.field-0.snapshot,
  c.in_ok-files.ensures.lines,
  c.in_ok-files.ensures.index,
  c.in_ok-files.ensures.first,
  c.in-Ok.ensures.start,
  c.in-Ok.ensures.changes,
  refl,
)

pub returns-clause-known : goal.returns-clause-known
returns-clause-known g c = c.in_ok-files.ensures.known
