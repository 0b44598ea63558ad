-- Whether nodes are the same, by the bytes of their names.
-- Tied to `IsWith` by the contract of `Nodes::number_of`; need not be read.
use Rattle.std.specs.Prelude.{ℕ, ◌&&◌, Bool, true, false, List, Option, Some, None}
use Rattle.std.specs.Str.{bytes_eq}
use Rattle.problems.specs.declared.node.Node.{Node}

abbrev pub is_asked : Option (List ℕ) → Option (List ℕ) → Bool
is_asked None None = true
is_asked (Some extra) (Some asked) = bytes_eq extra asked
is_asked None (Some asked) = false
is_asked (Some extra) None = false

abbrev pub is_node : Node → List ℕ → Option (List ℕ) → Bool
is_node node name extra = bytes_eq node.name name && is_asked node.extra extra
