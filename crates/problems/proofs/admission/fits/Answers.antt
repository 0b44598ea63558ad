use Rattle.std.proofs.Common.{rules}
use Rattle.problems.proofs.admission.fits.Goals as goal

pub returns-then-matches : goal.returns-then-matches
returns-then-matches c = search rules
