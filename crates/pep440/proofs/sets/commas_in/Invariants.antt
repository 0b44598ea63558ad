use Rattle.std.proofs.Common.{◌≤◌}
use Rattle.pep440.proofs.sets.commas_in.Given as goal

abbrev pub invariant-loop-i : goal.invariant-loop-i
invariant-loop-i l = l.commas ≤ l.i
