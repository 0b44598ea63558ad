use Rattle.pep440.proofs.VersionsReadAsSpelled.{one_version}
use Rattle.pep440.proofs.laws.a_text_spells_one_version.Goals as goal

pub returns : goal.returns
returns c = one_version
