use Rattle.commands.proofs.Batches.{replied_edit_over, replied_undo, replied_redo}
use Rattle.commands.proofs.batch.reply_to.Goals as goal

pub returns-in-Edit : goal.returns-in-Edit
returns-in-Edit c = record { replied = replied_edit_over c.args.pool.now c.copy.result c.args.item c.in-Edit.edit c.apply.result _ _ c.in-Edit.is c.copy.ensures c.apply.ensures.step c.apply.ensures.changes }

pub returns-in-Undo : goal.returns-in-Undo
returns-in-Undo c = record { replied = replied_undo c.args.pool.now c.args.item c.apply-in-Undo.result _ _ c.in-Undo.is c.apply-in-Undo.ensures.step c.apply-in-Undo.ensures.changes }

pub returns-in-Redo : goal.returns-in-Redo
returns-in-Redo c = record { replied = replied_redo c.args.pool.now c.args.item c.apply-in-Redo.result _ _ c.in-Redo.is c.apply-in-Redo.ensures.step c.apply-in-Redo.ensures.changes }
