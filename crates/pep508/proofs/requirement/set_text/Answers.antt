use Rattle.std.proofs.Common.{rules}
use Rattle.pep508.proofs.requirement.set_text.Goals as goal

pub returns-in-Some : goal.returns-in-Some
returns-in-Some c = search rules
