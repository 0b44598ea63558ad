use Rattle.std.proofs.Common.{rules}
use Rattle.journal.proofs.change_history.push_at.Goals as goal

pub returns-clause-pushed : goal.returns-clause-pushed
returns-clause-pushed c = search rules

pub returns-in_err-reserve-clause-kept : goal.returns-in_err-reserve-clause-kept
returns-in_err-reserve-clause-kept c = search rules

pub returns-clause-place : goal.returns-clause-place
returns-clause-place c = search rules
