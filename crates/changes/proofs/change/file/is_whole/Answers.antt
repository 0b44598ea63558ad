use Rattle.std.proofs.Common.{rules}
use Rattle.changes.proofs.change.file.is_whole.Goals as goal

pub returns : goal.returns
returns c = search rules
