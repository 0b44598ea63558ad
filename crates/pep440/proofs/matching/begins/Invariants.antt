use Rattle.std.proofs.Common.{◌≡◌, drop}
use Rattle.pep440.specs.Matching.{begins}
use Rattle.pep440.proofs.matching.begins.Given as goal

abbrev pub invariant-loop-i : goal.invariant-loop-i
invariant-loop-i l = begins (drop l.i l.release) (drop l.i l.prefix) ≡ begins l.release l.prefix
