use Rattle.std.proofs.Common.{rules}
use Rattle.pylock.proofs.from_table.check_format.Goals as goal

pub returns-in-None : goal.returns-in-None
returns-in-None c = search rules
