use Rattle.pylock.proofs.PackageFacts.{all_pass}
use Rattle.pylock.proofs.table.table_of.Goals as goal

pub array_value-requires : goal.array_value-requires
array_value-requires c = all_pass c.entries.result.now
