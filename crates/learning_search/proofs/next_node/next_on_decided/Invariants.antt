use Rattle.std.proofs.Common.{map, vec_len, ◌≡◌}
use Rattle.learning_search.specs.Tied.Demands.{AreRowed, IsWatched}
use Rattle.learning_search.specs.Tied.Gathering.{choice_at}
use Rattle.learning_search.proofs.next_node.next_on_decided.Given as goal

abbrev pub invariant-loop-name : goal.invariant-loop-name
invariant-loop-name l = record {
  rowed : AreRowed l.table l.demands;
  watched : IsWatched l.table l.demands l.taken (map choice_at l.choices.entries);
  listed : l.demands.listed ≡ l.fn.demands.listed;
}

abbrev pub decreases-loop-name : goal.decreases-loop-name
decreases-loop-name l = vec_len l.demands.names_to_check
