use Rattle.std.proofs.Common.{◌≤◌, drop}
use Rattle.changes.proofs.EndsFacts.{IsBackTo}
use Rattle.changes.proofs.change.inverse.splices_back.Given as goal

abbrev pub invariant-loop-place : goal.invariant-loop-place
invariant-loop-place l = record {
  begun : 1 ≤ l.place;
  made : IsBackTo l.splices (drop l.place l.splices) l.ends l.made.items;
}
