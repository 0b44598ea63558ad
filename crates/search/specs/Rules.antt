-- What the best solution depends on, whatever a name, a node, a version or a requirement is made of.
use Rattle.std.specs.Prelude.{List, Bool, ◌≡◌}
use Rattle.std.specs.List.{Contains}
use Rattle.std.specs.Cmp.{IsTotalOrder}
use Rattle.std.specs.declared.cmp.Ordering.{Ordering}
use Rattle.std.specs.declared.cmp.Ordering.TheVariants.{Equal}

-- N: names. X: nodes, each a name with an extra or with none. V: versions. R: what a line or a dependency requires.
pub record Rules (N X V R : Type 0) : Type 0 where
  -- what the active lines require
  pub lines : List R
  -- the name that a requirement is on
  pub name : R → N
  -- the nodes that it needs: its name without an extra, and with each extra that it requires
  pub nodes : R → List X
  -- the name of a node
  pub on : X → N
  -- whether a requirement admits a version of its name
  pub admits : R → V → Bool
  -- what the release with this version of the node's name requires at the node: its dependencies that count there
  pub wants : X → V → List R
  -- the versions of a name's candidates, in the order in which they are preferred
  pub candidates : N → List V
  -- the order of names
  pub compare : N → N → Ordering

-- a total order in which only the same are equal
pub record IsOrder {N : Type 0} (compare : N → N → Ordering) : Type 0 where
  pub total : IsTotalOrder compare
  pub exact : (a b : N) → compare a b ≡ Equal → a ≡ b

-- each requirement needs some node, and only nodes on its own name
pub record IsLawful {N X V R : Type 0} (rules : Rules N X V R) : Type 0 where
  pub order : IsOrder rules.compare
  pub some : (r : R) → (node : X) × Contains (rules.nodes r) node
  pub own : (r : R) (node : X) → Contains (rules.nodes r) node → rules.on node ≡ rules.name r
