use Rattle.std.proofs.Common.{rules}
use Rattle.resolve.proofs.candidates.first_place.Goals as goal

pub returns : goal.returns
returns c = search rules
