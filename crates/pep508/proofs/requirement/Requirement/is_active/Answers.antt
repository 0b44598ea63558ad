use Rattle.std.proofs.Common.{rules}
use Rattle.pep508.proofs.requirement.Requirement.is_active.Goals as goal

pub returns-in-None : goal.returns-in-None
returns-in-None c = search rules
