use Rattle.command_line.proofs.MarksInTurn.{begins}
use Rattle.command_line.proofs.marks.first_of_two.Goals as goal

pub loop-shown-init : goal.loop-shown-init
loop-shown-init c = begins _
