use Rattle.edits.proofs.KeptStay.{kept-stay}
use Rattle.edits.proofs.replace_laws.kept_versions_that_fit_stay.Goals as goal

pub returns : goal.returns
returns c = kept-stay
