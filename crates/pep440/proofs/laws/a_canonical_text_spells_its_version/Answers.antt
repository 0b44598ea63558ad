use Rattle.pep440.proofs.CanonicalFacts.{canonical-spells}
use Rattle.pep440.proofs.laws.a_canonical_text_spells_its_version.Goals as goal

pub returns : goal.returns
returns c = canonical-spells
