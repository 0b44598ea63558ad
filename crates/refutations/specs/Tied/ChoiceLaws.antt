-- The laws of the order of choices.
-- Tied to `choice_cmp` by the impl of `Ord`; need not be read.
use Rattle.std.specs.Cmp.{IsTotalOrder, on_total, then_total}
use Rattle.pep440.specs.Tied.OrderLaws.{version_total}
use Rattle.refutations.specs.Choices.{choice_cmp}
use Rattle.problems.specs.Tied.NodeLaws.{node_total}

pub choice_total : IsTotalOrder choice_cmp
choice_total = then_total (on_total (λ c. c.node) node_total) (on_total (λ c. c.version) version_total)
