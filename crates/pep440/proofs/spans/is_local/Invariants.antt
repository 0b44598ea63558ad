use Rattle.std.proofs.Common.{◌≡◌, drop, false}
use Rattle.pep440.specs.Tied.Reading.{is_local_from}
use Rattle.pep440.proofs.spans.is_local.Given as goal

abbrev pub invariant-loop-byte : goal.invariant-loop-byte
invariant-loop-byte l = is_local_from l.some (drop l.byte-index l.text) ≡ is_local_from false l.text
