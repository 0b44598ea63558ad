-- Where the number of a node is found.
-- Tied to `Nodes` by its invariant; need not be read.
use Rattle.std.specs.Prelude.{◌≡◌, ℕ, List, Option, Some, None}
use Rattle.std.specs.BTreeMap.{BTreeMap, get}
use Rattle.std.specs.Cmp.Lexicographic.{slice_cmp}
use Rattle.std.specs.Option.{option_and_then}
use Rattle.std.specs.Ordering.{nat_cmp}
use Rattle.problems.specs.Tied.Standing.{Stands}
use Rattle.problems.specs.declared.node.Node.{Node}
use Rattle.problems.specs.declared.nodes.Numbers.{Numbers}

-- the number that is listed for an extra or for none
abbrev pub number_in : Numbers → Option (List ℕ) → Option ℕ
number_in numbers None = numbers.bare
number_in numbers (Some extra) = get (slice_cmp nat_cmp) numbers.by_extra extra

-- the number that is listed for a node
abbrev pub number_at : BTreeMap (List ℕ) Numbers → Node → Option ℕ
number_at by_name node = option_and_then (λ numbers. number_in numbers node.extra) (get (slice_cmp nat_cmp) by_name node.name)

-- each of the nodes is listed with its place
abbrev pub AreListed : BTreeMap (List ℕ) Numbers → List Node → Type 0
AreListed by_name nodes = (place : ℕ) (node : Node) → Stands nodes place node → number_at by_name node ≡ Some place
