use Rattle.std.proofs.Common.{rules}
use Rattle.snapshot.proofs.release.reading.insert_new.Goals as goal

pub returns-clause-is_new : goal.returns-clause-is_new
returns-clause-is_new c = search rules

pub returns-clause-keys : goal.returns-clause-keys
returns-clause-keys c = search rules
