use Rattle.std.proofs.Common.{◌≡◌, ◌++◌, drop}
use Rattle.std.specs.List.{concat}
use Rattle.pep508.proofs.file.ReqFile.bytes.Given as goal

abbrev pub invariant-loop-line : goal.invariant-loop-line
invariant-loop-line l = concat l.line-items ≡ l.bytes ++ concat (drop l.line-index l.line-items)
