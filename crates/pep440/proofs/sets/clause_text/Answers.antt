use Rattle.std.proofs.Common.{rules}
use Rattle.pep440.proofs.sets.clause_text.Goals as goal

pub returns-in_err-version : goal.returns-in_err-version
returns-in_err-version c = search rules

pub returns : goal.returns
returns c = search rules
