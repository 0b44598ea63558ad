use Rattle.std.proofs.Common.{◌<◌, ◌∙◌, Some, ap, length, sym}
use Rattle.commands.specs.declared.batch_line.Item.{Item}
use Rattle.commands.proofs.Texts.{item_of_some, some-bytes}
use Rattle.commands.proofs.batch_line.read_text.Goals as goal

pub returns-clause-item : goal.returns-clause-item
returns-clause-item c =
    let some : 0 < length c.args.text.now = some-bytes c.args.text.now (sym c.is_empty.ensures ∙ c.if-is_empty.false) in
    ap (λ (i : Item). Some i) (rw (c.cut_word.ensures.word, c.cut_word.ensures.behind) at c.in_ok-item.ensures.item) ∙ sym (item_of_some c.args.text.now some)
