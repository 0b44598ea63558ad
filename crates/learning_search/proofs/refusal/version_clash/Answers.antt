use Rattle.std.proofs.Common.{rules}
use Rattle.learning_search.proofs.refusal.version_clash.Goals as goal

pub returns-then-first-candidate : goal.returns-then-first-candidate
returns-then-first-candidate c = search rules
