use Rattle.std.proofs.Common.{rules}
use Rattle.pep508.specs.Requirement.{wanted_by}
use Rattle.pep508.proofs.line.wanted_by.Goals as goal

pub returns-then-is_empty : goal.returns-then-is_empty
unfolding wanted_by
returns-then-is_empty c = search rules

pub returns-in_err-asked_in : goal.returns-in_err-asked_in
unfolding wanted_by
returns-in_err-asked_in c = search rules

pub returns : goal.returns
unfolding wanted_by
returns c = search rules
