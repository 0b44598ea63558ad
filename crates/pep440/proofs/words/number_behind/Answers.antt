use Rattle.std.proofs.Common.{rules}
use Rattle.pep440.proofs.words.number_behind.Goals as goal

pub returns-clause-digits : goal.returns-clause-digits
returns-clause-digits c = search rules

pub returns-clause-rest : goal.returns-clause-rest
returns-clause-rest c = search rules
