use Rattle.std.proofs.Common.{◌≡◌, take, true}
use Rattle.std.specs.List.{AllByRecursion}
use Rattle.exports.specs.Tied.Answers.{is_line_alike}
use Rattle.exports.proofs.answers.are_lines_alike.Given as goal

abbrev pub invariant-loop-line : goal.invariant-loop-line
invariant-loop-line l = AllByRecursion (λ x. is_line_alike l.one l.other x ≡ true) (take l.line-index l.lines)
