use Rattle.std.proofs.Common.{ℕ, List, Option, MatchOption, Contains, ◌≡◌, ◌≤◌, ◌∷◌, [], sym, subst}
use Rattle.std.specs.BTreeSet.{keys}
use Rattle.learning_search.proofs.Rows.{least-key}
use Rattle.learning_search.proofs.next_node.least_free.Goals as goal

pub returns : goal.returns
returns c = subst (λ (o : Option ℕ). MatchOption o (keys c.args.free.now ≡ []) (λ name. (rest : List ℕ) × (keys c.args.free.now ≡ name ∷ rest) × ((m : ℕ) → Contains (keys c.args.free.now) m → name ≤ m))) (sym c.copied.ensures)
    (least-key (keys c.args.free.now) c.first.result c.first.ensures.variant c.first.ensures.first c.first.ensures.all_from)
