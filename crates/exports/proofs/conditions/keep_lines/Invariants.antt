use Rattle.std.proofs.Common.{◌≡◌, take, true}
use Rattle.std.specs.List.{AllByRecursion}
use Rattle.exports.specs.Tied.Answers.{is_line_alike}
use Rattle.exports.specs.Tied.Kept.{Keeps}
use Rattle.exports.proofs.conditions.keep_lines.Given as goal

abbrev pub invariant-loop-line : goal.invariant-loop-line
invariant-loop-line l = Keeps l.environment l.fn.conditions l.conditions (λ other. AllByRecursion (λ line. is_line_alike l.environment other line ≡ true) (take l.line-index l.lines))
