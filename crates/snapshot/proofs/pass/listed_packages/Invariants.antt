use Rattle.std.proofs.Common.{length}
use Rattle.snapshot.proofs.GrammarFacts.{ReadSoFar}
use Rattle.snapshot.proofs.pass.listed_packages.Given as goal

abbrev pub invariant-packages : goal.invariant-packages
invariant-packages l = ReadSoFar l.fn.reader l.reader (record { packages = l.packages.items; skipped = l.all_skipped.items })

abbrev pub decreases-packages : goal.decreases-packages
decreases-packages l = length l.reader
