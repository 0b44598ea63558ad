-- The order of nodes.
use Rattle.std.specs.Cmp.Lexicographic.{slice_cmp}
use Rattle.std.specs.Option.{option_cmp}
use Rattle.std.specs.Ordering.{nat_cmp, on, then_cmp}
use Rattle.std.specs.declared.cmp.Ordering.{Ordering}
use Rattle.problems.specs.declared.node.Node.{Node}

-- names by their bytes; of one name no extra first, and then extras by their bytes
abbrev pub node_cmp : Node → Node → Ordering
node_cmp = then_cmp (on (λ n. n.name) (slice_cmp nat_cmp)) (on (λ n. n.extra) (option_cmp (slice_cmp nat_cmp)))
