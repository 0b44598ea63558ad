use Rattle.std.proofs.Common.{ℕ, ◌≡◌, take, length}
use Rattle.std.specs.Ordering.{nat_cmp}
use Rattle.search.specs.Tied.Search.{pins_of, taken_at}
use Rattle.search.specs.Solutions.{version_pinned}
use Rattle.search.proofs.taken_places.taken_of.Given as goal

abbrev pub invariant-loop-frame : goal.invariant-loop-frame
invariant-loop-frame l = record {
  room : length l.taken.items ≡ length l.table.candidates;
  same : (n : ℕ) → taken_at l.taken.items n ≡ version_pinned nat_cmp (pins_of (take l.frame-index l.frames)) n;
}
