use Rattle.std.proofs.Common.{rules}
use Rattle.pylock.proofs.canonical_texts.canonical_version.Goals as goal

pub returns-in-Ok-canonical : goal.returns-in-Ok-canonical
returns-in-Ok-canonical c = search rules
