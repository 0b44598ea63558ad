use Rattle.std.proofs.Common.{◌≡◌, ◌+◌, drop}
use Rattle.std.specs.List.{position_from}
use Rattle.edits.specs.Addition.{line_number}
use Rattle.pep508.specs.Required.{is_on, required_by}
use Rattle.edits.proofs.addition.line_number.Given as goal

abbrev pub invariant-loop-place : goal.invariant-loop-place
invariant-loop-place l = position_from (λ line. is_on l.name (required_by line)) (l.place + 1) (drop l.place l.lines) ≡ line_number l.name l.lines
