use Rattle.std.proofs.Common.{Some, None, sym}
use Rattle.states.proofs.LockForLines.{an-entry}
use Rattle.states.proofs.state.lock_for_lines.is_an_entry.Goals as goal

pub returns-in-Some : goal.returns-in-Some
returns-in-Some c = an-entry c.args.entries.now c.args.name.now (Some c.in-Some.field-0.now) c.requires (sym c.in-Some.ensures)

pub returns-in-None : goal.returns-in-None
returns-in-None c = an-entry c.args.entries.now c.args.name.now None c.requires (sym c.in-None.ensures)
