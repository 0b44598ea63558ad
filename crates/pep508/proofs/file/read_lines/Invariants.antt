use Rattle.std.proofs.Common.{◌≡◌, ◌++◌, ◌+◌, length}
use Rattle.std.specs.Str.{IsUtf8}
use Rattle.pep508.specs.Lines.{lines_of}
use Rattle.pep508.specs.Requirement.{first_fault}
use Rattle.pep508.proofs.file.read_lines.Given as goal

abbrev pub invariant-loop-rest : goal.invariant-loop-rest
invariant-loop-rest l = record {
  text : IsUtf8 l.rest;
  cut : lines_of l.fn.text ≡ l.lines ++ lines_of l.rest;
  passed : first_fault 1 (lines_of l.fn.text) ≡ first_fault (length l.lines + 1) (lines_of l.rest);
}

abbrev pub decreases-loop-rest : goal.decreases-loop-rest
decreases-loop-rest l = length l.rest
