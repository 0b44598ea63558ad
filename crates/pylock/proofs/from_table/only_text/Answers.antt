use Rattle.pylock.proofs.ReadFacts.{only_text-other}
use Rattle.pylock.proofs.from_table.only_text.Goals as goal

pub returns-then-values-ne1 : goal.returns-then-values-ne1
returns-then-values-ne1 c = only_text-other c.args.values.now c.if-values-ne1.true
