use Rattle.std.proofs.Common.{rules}
use Rattle.pep508.specs.Slices.{slices_with}
use Rattle.pep508.proofs.slices.slices_with.Goals as goal

pub returns : goal.returns
unfolding slices_with
returns c = search rules
