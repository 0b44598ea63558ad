use Rattle.std.proofs.Common.{length, take, ◌-◌, ◌≡◌}
use Rattle.learning_search.specs.Tied.Demands.{AreRowed}
use Rattle.learning_search.proofs.demands.Demands.drop_last.Given as goal

abbrev pub invariant-loop : goal.invariant-loop
invariant-loop l = record {
  rowed : AreRowed l.table l.self;
  listed : l.self.listed.items ≡ take (length l.fn.self.listed.items - l.counter) l.fn.self.listed.items;
  free : l.self.free ≡ l.fn.self.free;
  names_to_check : l.self.names_to_check ≡ l.fn.self.names_to_check;
}
