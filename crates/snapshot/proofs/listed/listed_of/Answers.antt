use Rattle.std.proofs.Common.{rules}
use Rattle.snapshot.specs.Releases.{listed_of}
use Rattle.snapshot.proofs.listed.listed_of.Goals as goal

pub returns-in_err-files : goal.returns-in_err-files
unfolding listed_of
returns-in_err-files c = search rules
