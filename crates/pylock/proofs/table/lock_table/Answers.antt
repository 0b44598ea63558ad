use Rattle.pylock.proofs.WriteFacts.{lock_in_order}
use Rattle.pylock.proofs.table.lock_table.Goals as goal

pub returns : goal.returns
returns c =
    rw (
      c.in_ok-insert-4.ensures,
      c.in_ok-insert-3.ensures,
      c.in_ok-insert-2.ensures,
      c.in_ok-insert_some.ensures,
      c.in_ok-insert.ensures,
      c.new-table.ensures.empty,
      c.in_ok-tool_value.ensures,
      c.in_ok-text_value-2.ensures,
      c.in_ok-text_value.ensures,
    )
    (lock_in_order _ _ _ _ _)
