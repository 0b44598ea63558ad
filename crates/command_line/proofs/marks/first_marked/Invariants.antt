use Rattle.std.proofs.Common.{◌≡◌, drop}
use Rattle.command_line.specs.Marks.{first_marked}
use Rattle.command_line.specs.Options.{marks_of}
use Rattle.command_line.proofs.marks.first_marked.Given as goal

abbrev pub invariant-loop-shown : goal.invariant-loop-shown
invariant-loop-shown l = first_marked (marks_of (drop l.shown-index l.marks)) ≡ first_marked (marks_of l.marks)
