use Rattle.pep440.proofs.VersionsReadAsSpelled.{answers-read, found-read}
use Rattle.pep440.proofs.version.Version.parse.Goals as goal

pub returns-clause-answers : goal.returns-clause-answers
returns-clause-answers c = answers-read c.args.text.now _ (rw c.as_bytes.ensures.value at c.version_at.ensures)

pub returns-clause-found : goal.returns-clause-found
returns-clause-found c = found-read c.args.text.now _ (rw c.as_bytes.ensures.value at c.version_at.ensures)
