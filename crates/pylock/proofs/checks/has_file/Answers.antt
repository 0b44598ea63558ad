use Rattle.std.proofs.Common.{rules}
use Rattle.pylock.proofs.checks.has_file.Goals as goal

pub returns-else-is_some : goal.returns-else-is_some
returns-else-is_some c = search rules
