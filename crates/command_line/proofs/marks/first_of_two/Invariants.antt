use Rattle.std.proofs.Common.{◌≡◌, drop}
use Rattle.command_line.proofs.MarksInTurn.{first_with}
use Rattle.command_line.specs.Marks.{first_of_two}
use Rattle.command_line.specs.Options.{marks_of, text_of}
use Rattle.command_line.proofs.marks.first_of_two.Given as goal

abbrev pub invariant-loop-shown : goal.invariant-loop-shown
invariant-loop-shown l = first_with (text_of l.first) (marks_of (drop l.shown-index l.marks)) ≡ first_of_two (marks_of l.marks)
