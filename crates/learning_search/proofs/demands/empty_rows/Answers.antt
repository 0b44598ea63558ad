use Rattle.std.proofs.Common.{ℕ, List, [], ◌∷◌, ◌∙◌, ◌+◌, ◌≡◌, length, length-append, ap, sym, subst}
use Rattle.std.specs.Global.{Vec}
use Rattle.learning_search.proofs.Rows.{row-empty_push}
use Rattle.learning_search.specs.declared.demands.Demand.{Demand}
use Rattle.learning_search.specs.Tied.Demands.{row_at}
use Rattle.learning_search.proofs.demands.empty_rows.Goals as goal

pub loop-preserved : goal.loop-preserved
loop-preserved c = record {
  size = ap length c.in_ok-push.ensures.items ∙ length-append c.loop.rows.items (c.new.result ∷ []) ∙ ap (λ k. k + 1) c.loop.invariant.size;
  empty = subst (λ (xs : List (Vec Demand)). (n : ℕ) → row_at xs n ≡ []) (sym c.in_ok-push.ensures.items) (row-empty_push c.loop.rows.items c.new.result c.new.ensures.items c.loop.invariant.empty);
}
