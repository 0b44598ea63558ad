use Rattle.std.proofs.Common.{◌≡◌, ◌++◌, true}
use Rattle.std.specs.List.{list_all}
use Rattle.markers.specs.Names.{is_normal}
use Rattle.states.proofs.locks.in_order.Given as goal

abbrev pub invariant-loop-name : goal.invariant-loop-name
invariant-loop-name l = record {
  names : l.ordered.items ++ l.name-iterator ≡ l.fn.names.keys;
  normal : list_all is_normal l.ordered.items ≡ true;
}
