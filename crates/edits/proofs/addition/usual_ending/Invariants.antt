use Rattle.std.proofs.Common.{◌≡◌, drop}
use Rattle.edits.specs.Addition.{usual_ending}
use Rattle.edits.proofs.addition.usual_ending.Given as goal

abbrev pub invariant-loop-line : goal.invariant-loop-line
invariant-loop-line l = usual_ending (drop l.line-index l.lines) ≡ usual_ending l.lines
