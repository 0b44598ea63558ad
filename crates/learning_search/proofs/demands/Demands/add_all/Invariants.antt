use Rattle.std.proofs.Common.{take, map, ◌++◌, ◌≡◌}
use Rattle.learning_search.specs.Tied.Demands.{AreRowed, IsWatched}
use Rattle.learning_search.specs.Tied.Gathering.{choice_at}
use Rattle.learning_search.specs.Tied.Learned.{demand_of}
use Rattle.learning_search.proofs.demands.Demands.add_all.Given as goal

abbrev pub invariant-loop-requirement : goal.invariant-loop-requirement
invariant-loop-requirement l = record {
  rowed : AreRowed l.table l.self;
  watched : IsWatched l.table l.self l.taken (map choice_at l.choices.entries);
  listed : l.self.listed.items ≡ l.fn.self.listed.items ++ map (demand_of l.by) (take l.requirement-index l.requirements);
}
