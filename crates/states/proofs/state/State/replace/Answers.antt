use Rattle.states.proofs.state.State.replace.Goals as goal

pub from_lines-requires : goal.from_lines-requires
from_lines-requires c = c.a_file_reads_as_lines.ensures _ c.args.lines c.requires.lines
