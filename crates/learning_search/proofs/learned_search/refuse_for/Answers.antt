use Rattle.std.proofs.Common.{ℕ, List, subst}
use Rattle.search.specs.declared.conflict.NodeChoice.{NodeChoice}
use Rattle.learning_search.specs.Tied.Gathering.{decision}
use Rattle.learning_search.specs.Tied.Refusals.{RefusesOneMore}
use Rattle.learning_search.proofs.learned_search.refuse_for.Goals as goal

pub returns : goal.returns
returns c = record {
  conflict = c.in_ok-conflict.conflict.items;
  recorded = c.in_ok-record.ensures;
  one = c.in_ok-conflict.ensures.one;
  two = c.in_ok-conflict.ensures.other;
  only = c.in_ok-conflict.ensures.only;
  refused = subst (λ (xs : List (NodeChoice ℕ ℕ)). RefusesOneMore c.args.queue.now c.refuse.new.self xs (decision c.args.queue.now.node c.args.place)) c.as_slice.ensures.value c.in_ok-refuse.ensures;
}
