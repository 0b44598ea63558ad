use Rattle.pep440.proofs.SetBytes.{set-begins, set-bytes}
use Rattle.pep440.proofs.laws.a_set_has_its_bytes.Goals as goal

pub returns-clause-bytes : goal.returns-clause-bytes
returns-clause-bytes c = set-bytes

pub returns-clause-first : goal.returns-clause-first
returns-clause-first c = set-begins
