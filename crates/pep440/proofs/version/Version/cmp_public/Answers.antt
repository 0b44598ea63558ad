use Rattle.std.proofs.Common.{rules}
use Rattle.pep440.proofs.version.Version.cmp_public.Goals as goal

pub returns : goal.returns
returns c = search rules
