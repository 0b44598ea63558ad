-- What is required, what clashes with it, and which node comes next.
-- Tied to `IsBest` by the contract of `learned_best`; need not be read.
use Rattle.std.specs.Prelude.{ℕ, List, Option, Some, None, true, false, ◌≡◌, ◌≢◌, ◌<◌, ◌≤◌, ◌⊎◌}
use Rattle.std.specs.List.{Contains}
use Rattle.search.specs.declared.conflict.NodeChoice.{NodeChoice}
use Rattle.learning_search.specs.declared.demands.Demand.{Demand}
use Rattle.learning_search.specs.declared.next_node.NeededNode.{NeededNode}
use Rattle.learning_search.specs.declared.assignment.Assignment.{Assignment}
use Rattle.search.specs.Conflicts.{Follows}
use Rattle.learning_search.specs.Tied.Gathering.{decision}
use Rattle.search.specs.Table.{places_eq}
use Rattle.learning_search.specs.Tied.Learned.{IsFree, decisions_of}
use Rattle.search.specs.Rules.{Rules}

-- the choice that demands something; for a line the candidate itself
abbrev pub source : Option (NodeChoice ℕ ℕ) → NodeChoice ℕ ℕ → NodeChoice ℕ ℕ
source None candidate = candidate
source (Some by) candidate = by

-- what is required on the candidate's name admits it
abbrev pub DemandsFit : Rules ℕ ℕ ℕ ℕ → List Demand → NodeChoice ℕ ℕ → Type 0
DemandsFit rules listed c = (a : Demand) → Contains listed a → rules.name a.requirement ≡ rules.on c.node → rules.admits a.requirement c.version ≡ true

-- something that the other requires doesn't admit the candidate
pub record DemandClashes (rules : Rules ℕ ℕ ℕ ℕ) (listed : List Demand) (c other : NodeChoice ℕ ℕ) : Type 0 where
  pub demand : Demand
  pub there : Contains listed demand
  pub named : rules.name demand.requirement ≡ rules.on c.node
  pub refused : rules.admits demand.requirement c.version ≡ false
  pub is : other ≡ source demand.by c

-- a requirement of the candidate admits the choice on its name, the candidate itself where it is on its own
pub record WantedFits (rules : Rules ℕ ℕ ℕ ℕ) (first : ℕ → Option (NodeChoice ℕ ℕ)) (c : NodeChoice ℕ ℕ) (r : ℕ) : Type 0 where
  pub own : rules.name r ≡ rules.on c.node → rules.admits r c.version ≡ true
  pub others : rules.name r ≢ rules.on c.node → (d : NodeChoice ℕ ℕ) → first (rules.name r) ≡ Some d → rules.admits r d.version ≡ true

pub record WantedClashes (rules : Rules ℕ ℕ ℕ ℕ) (first : ℕ → Option (NodeChoice ℕ ℕ)) (c : NodeChoice ℕ ℕ) (r : ℕ) (other : NodeChoice ℕ ℕ) : Type 0 where
  pub is : ((rules.name r ≡ rules.on c.node) × (other ≡ c)) ⊎ (first (rules.name r) ≡ Some other)
  pub refused : rules.admits r other.version ≡ false

-- the other is assigned or is the candidate, and a conflict that holds both follows
pub record Clashes (rules : Rules ℕ ℕ ℕ ℕ) (before : List Assignment) (c other : NodeChoice ℕ ℕ) : Type 0 where
  pub assigned : Contains (decisions_of before) other ⊎ (c ≡ other)
  pub follows : (earlier : List (List (NodeChoice ℕ ℕ))) (conflict : List (NodeChoice ℕ ℕ)) → Contains conflict c → Contains conflict other → Follows rules places_eq earlier conflict

-- ---- which node comes next

-- each node that is required on a decided name is chosen
abbrev pub NoneOnDecided : Rules ℕ ℕ ℕ ℕ → (ℕ → Option (NodeChoice ℕ ℕ)) → List (NodeChoice ℕ ℕ) → List Demand → Type 0
NoneOnDecided rules first chosen listed = (a : Demand) (d : NodeChoice ℕ ℕ) (node : ℕ) → Contains listed a → first (rules.name a.requirement) ≡ Some d → Contains (rules.nodes a.requirement) node → (v : ℕ) × Contains chosen (decision node v)

-- the needed node is on a decided name, one with a version, and has no choice itself
pub record IsOnDecided (rules : Rules ℕ ℕ ℕ ℕ) (first : ℕ → Option (NodeChoice ℕ ℕ)) (chosen : List (NodeChoice ℕ ℕ)) (listed : List Demand) (need : NeededNode) : Type 0 where
  pub demand : Demand
  pub there : Contains listed demand
  pub by : need.by ≡ demand.by
  pub node : Contains (rules.nodes demand.requirement) need.node
  pub one : NodeChoice ℕ ℕ
  pub named : first (rules.name demand.requirement) ≡ Some one
  pub free : IsFree chosen need.node

-- a node that is required, on the least name of those that have no version
pub record IsLeastNeed (rules : Rules ℕ ℕ ℕ ℕ) (first : ℕ → Option (NodeChoice ℕ ℕ)) (listed : List Demand) (need : NeededNode) : Type 0 where
  pub demand : Demand
  pub there : Contains listed demand
  pub by : need.by ≡ demand.by
  pub node : Contains (rules.nodes demand.requirement) need.node
  pub named : rules.on need.node ≡ rules.name demand.requirement
  pub free : first (rules.name demand.requirement) ≡ None
  pub least : (a : Demand) → Contains listed a → first (rules.name a.requirement) ≡ None → rules.name demand.requirement ≤ rules.name a.requirement

abbrev pub IsFoundNeed : Rules ℕ ℕ ℕ ℕ → (ℕ → Option (NodeChoice ℕ ℕ)) → List Demand → Option NeededNode → Type 0
IsFoundNeed rules first listed None = (a : Demand) → Contains listed a → first (rules.name a.requirement) ≡ None → ⊥
IsFoundNeed rules first listed (Some need) = IsLeastNeed rules first listed need

-- each requirement is one of the table
abbrev pub AreKnownDemands : ℕ → List Demand → Type 0
AreKnownDemands bound listed = (a : Demand) → Contains listed a → a.requirement < bound
