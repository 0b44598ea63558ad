-- The order of choices, and their text.
use Rattle.std.specs.Prelude.{ℕ, List, [], ◌++◌, Option, Some, None, codes}
use Rattle.std.specs.Ordering.{on, then_cmp}
use Rattle.std.specs.declared.cmp.Ordering.{Ordering}
use Rattle.pep440.specs.Canonical.{canonical}
use Rattle.pep440.specs.Order.{version_cmp}
use Rattle.problems.specs.Nodes.{node_cmp}
use Rattle.problems.specs.Choices.{ChoiceParts}

-- nodes first, and then versions by their order: `1.0` equals `1.0.0`
abbrev pub choice_cmp : ChoiceParts → ChoiceParts → Ordering
choice_cmp = then_cmp (on (λ c. c.node) node_cmp) (on (λ c. c.version) version_cmp)

-- an extra in brackets
abbrev pub extra_text : Option (List ℕ) → List ℕ
extra_text None = []
extra_text (Some extra) = codes "[" ++ (extra ++ codes "]")

-- `name==version`, or `name[extra]==version` at the node of an extra
abbrev pub choice_text : ChoiceParts → List ℕ
choice_text c = c.node.name ++ (extra_text c.node.extra ++ (codes "==" ++ canonical c.version))
