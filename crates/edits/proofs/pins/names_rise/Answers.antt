use Rattle.edits.proofs.pins.names_rise.Goals as goal

pub returns : goal.returns
returns c = c.len.ensures.ordered
