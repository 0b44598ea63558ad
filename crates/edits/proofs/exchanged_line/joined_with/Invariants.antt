use Rattle.std.proofs.Common.{◌≡◌, ◌++◌, drop}
use Rattle.std.specs.List.{concat}
use Rattle.edits.specs.ExchangedLine.{with_line_on}
use Rattle.edits.proofs.exchanged_line.joined_with.Given as goal

abbrev pub invariant-loop-line : goal.invariant-loop-line
invariant-loop-line l = concat (with_line_on l.name l.text l.lines) ≡ l.all ++ concat (with_line_on l.name l.text (drop l.line-index l.lines))
