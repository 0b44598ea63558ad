use Rattle.std.proofs.Common.{length}
use Rattle.pep440.specs.Tied.Reading.{locals_of}
use Rattle.pep440.proofs.LocalsRead.{PartsSoFar}
use Rattle.pep440.proofs.reading.local_parts.Given as goal

abbrev pub invariant-pieces : goal.invariant-pieces
invariant-pieces l = PartsSoFar l.parts.items l.rest (locals_of l.fn.text)

abbrev pub decreases-pieces : goal.decreases-pieces
decreases-pieces l = length l.rest
