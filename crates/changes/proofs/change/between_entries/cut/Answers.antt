use Rattle.std.proofs.Common.{◌∙◌, refl}
use Rattle.changes.proofs.BetweenEntries.{cut-here}
use Rattle.changes.proofs.change.between_entries.cut.Goals as goal

pub returns-then-is_same-clause-behind : goal.returns-then-is_same-clause-behind
returns-then-is_same-clause-behind c =
    cut-here c.args.name.now c.args.entries.now c.first-item.result c.in-len1-up.len_at_least c.first-item.is (c.if-is_same.ensures.0 refl ∙ c.name.ensures)
