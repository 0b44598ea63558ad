use Rattle.std.proofs.Common.{rules}
use Rattle.markers.proofs.comparison.compare_texts.Goals as goal

pub returns-in-Compatible : goal.returns-in-Compatible
returns-in-Compatible c = search rules
