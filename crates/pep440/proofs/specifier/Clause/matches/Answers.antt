use Rattle.std.proofs.Common.{rules}
use Rattle.pep440.proofs.specifier.Clause.matches.Goals as goal

pub returns-then-is_ge : goal.returns-then-is_ge
returns-then-is_ge c = search rules
