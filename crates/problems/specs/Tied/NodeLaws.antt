-- The laws of the order of nodes.
-- Tied to `node_cmp` by what they say; need not be read.
use Rattle.std.specs.Cmp.{IsTotalOrder, on_total, then_total}
use Rattle.std.specs.Cmp.Lexicographic.{nat_list_cmp_total, options_total}
use Rattle.problems.specs.Nodes.{node_cmp}

pub node_total : IsTotalOrder node_cmp
node_total = then_total (on_total (λ n. n.name) nat_list_cmp_total) (on_total (λ n. n.extra) (options_total nat_list_cmp_total))
