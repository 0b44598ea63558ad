use Rattle.pep440.proofs.CanonicalFacts.{canonical-spells}
use Rattle.pep440.proofs.VersionsReadAsSpelled.{spells-version}
use Rattle.pep440.specs.Canonical.{canonical}
use Rattle.pep440.proofs.laws.a_canonical_text_is_read.Goals as goal

pub returns : goal.returns
returns c v lawful = spells-version (canonical v) v (canonical-spells v lawful) lawful.numbers
