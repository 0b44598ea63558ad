use Rattle.std.proofs.Common.{◌≤◌, drop}
use Rattle.changes.proofs.EndsFacts.{IsLeft}
use Rattle.changes.proofs.change.minimal.do_rise.Given as goal

abbrev pub invariant-loop-place : goal.invariant-loop-place
invariant-loop-place l = record {
  begun : 1 ≤ l.place;
  left : IsLeft l.splices (drop l.place l.splices) l.ends;
}
