use Rattle.journal.proofs.VersionOne.{one-opens}
use Rattle.journal.proofs.version_one.what_version_1_saved_opens.Goals as goal

pub returns : goal.returns
returns c = record { law = one-opens c.a_canonical_text_is_read.ensures }
