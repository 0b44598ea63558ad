use Rattle.std.proofs.Common.{rules}
use Rattle.markers.proofs.name.is_name.Goals as goal

pub returns-then-is_ascii_alphanumeric : goal.returns-then-is_ascii_alphanumeric
returns-then-is_ascii_alphanumeric c = search rules
