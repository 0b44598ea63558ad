use Rattle.std.proofs.Common.{ℕ, [], length, ◌≡◌}
use Rattle.learning_search.specs.Tied.Demands.{row_at}
use Rattle.learning_search.proofs.demands.empty_rows.Given as goal

abbrev pub invariant-loop : goal.invariant-loop
invariant-loop l = record {
  size : length l.rows.items ≡ l.counter;
  empty : (n : ℕ) → row_at l.rows.items n ≡ [];
}
