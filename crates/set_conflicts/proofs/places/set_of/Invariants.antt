use Rattle.std.proofs.Common.{take}
use Rattle.lists.specs.Bits.{LiesWithin}
use Rattle.set_conflicts.proofs.places.set_of.Given as goal

abbrev pub invariant-loop-place : goal.invariant-loop-place
invariant-loop-place l = record {
  all : LiesWithin (take l.place-index l.places) l.set;
  only : LiesWithin l.set l.places;
}
