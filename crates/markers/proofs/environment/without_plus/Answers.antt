use Rattle.std.proofs.Common.{rules}
use Rattle.markers.proofs.environment.without_plus.Goals as goal

pub returns-then-bytes-len-eq43 : goal.returns-then-bytes-len-eq43
returns-then-bytes-len-eq43 c = search rules
