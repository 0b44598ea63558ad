use Rattle.std.proofs.Common.{◌≡◌, drop, map}
use Rattle.states.specs.Names.{with_names}
use Rattle.changes.proofs.change.by_name.put_names.Given as goal

abbrev pub invariant-loop-item : goal.invariant-loop-item
invariant-loop-item g l =
    with_names l.names.keys (map g.T.OfTarget.target (drop l.item-index l.items)) ≡ with_names l.initial.names.keys (map g.T.OfTarget.target l.items)
