use Rattle.std.proofs.Common.{ℕ, ◌≡◌, ◌<◌, length}
use Rattle.lists.specs.Bits.{LiesWithin}
use Rattle.search.specs.Table.{candidates_of, name_of}
use Rattle.set_conflicts.specs.Tied.Domains.{set_at}
use Rattle.set_conflicts.proofs.domains.all_sets.Given as goal

abbrev pub invariant-loop-node : goal.invariant-loop-node
invariant-loop-node l = record {
  room : length l.sets.items ≡ l.node;
  all : (node : ℕ) → node < length l.sets.items → LiesWithin (candidates_of l.table (name_of l.table node)) (set_at l.sets.items node);
}
