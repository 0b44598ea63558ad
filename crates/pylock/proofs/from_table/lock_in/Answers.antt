use Rattle.std.proofs.Common.{rules}
use Rattle.pylock.specs.LockOfTable.{lock_in}
use Rattle.pylock.proofs.from_table.lock_in.Goals as goal

pub returns : goal.returns
unfolding lock_in
returns c = search rules

pub returns-in_err-check_keys : goal.returns-in_err-check_keys
unfolding lock_in
returns-in_err-check_keys c = search rules
