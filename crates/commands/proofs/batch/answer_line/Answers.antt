use Rattle.std.proofs.Common.{◌≡◌, ◌∙◌, Some, sym}
use Rattle.std.specs.Option.{option_to_list}
use Rattle.commands.specs.BatchLine.{item_of}
use Rattle.commands.proofs.Batches.{answers_sent, replied_for_memory, replied_item}
use Rattle.commands.proofs.batch.answer_line.Goals as goal

pub returns-in-Ok-Some : goal.returns-in-Ok-Some
returns-in-Ok-Some g c =
    let item = item_of (record { bytes = c.args.batch.now.pending; is_ended = c.args.is_ended }) in
    let is : Some c.in-Ok-Some.item ≡ item = sym c.in-Ok-Some.field-0-is ∙ (rw c.as_bytes.ensures.line at c.in-Ok-Some.ensures.item) in
    let replied = replied_item c.args.pool.now item c.in-Ok-Some.item c.reply_to.result _ _ is c.reply_to.ensures.replied in
    let sent = c.send.ensures in
    answers_sent c.send.result c.args.pool.now (option_to_list item) c.reply_to.result _ _ _ _ _ _ _ replied sent.reply sent.tally sent.cut_off sent.sink

pub returns-in-Err : goal.returns-in-Err
returns-in-Err g c =
    let item = item_of (record { bytes = c.args.batch.now.pending; is_ended = c.args.is_ended }) in
    let replied = replied_for_memory c.args.pool.now item c.args.session.now (rw c.as_bytes.ensures.line at c.in-Err.ensures.memory) in
    let sent = c.send-in-Err.ensures in
    answers_sent c.send-in-Err.result c.args.pool.now (option_to_list item) _ c.args.session.now c.args.session.now _ _ _ _ _ replied sent.reply sent.tally sent.cut_off sent.sink
