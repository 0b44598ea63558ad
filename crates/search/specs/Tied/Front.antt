-- What a search knows of its choices while it goes forward.
-- Tied to `IsBest` by the contracts of the searches; need not be read.
use Rattle.std.specs.Prelude.{ℕ, List, Option, ◌≡◌, ◌≢◌, ◌≤◌, false, take, length}
use Rattle.std.specs.List.{Contains, list_any}
use Rattle.std.specs.Ordering.{nat_cmp}
use Rattle.search.specs.declared.front.Front.{Front}
use Rattle.search.specs.declared.parts.Frame.{Frame}
use Rattle.search.specs.declared.parts.KnownBefore.{KnownBefore}
use Rattle.search.specs.FirstWalk.{IsRequired}
use Rattle.search.specs.Tied.Nodes.{IsClosing, nodes_linked, wants_linked}
use Rattle.search.specs.Rules.{Rules}
use Rattle.search.specs.Tied.Search.{taken_at, pins_of, clash_in, AreNeeded, AreRequired}
use Rattle.search.specs.Solutions.{version_pinned}
use Rattle.search.specs.Table.{TableParts, rules_of}

-- the requirements of a walk, as far as the first `at` nodes have been followed
pub record IsRequiring (rules : Rules ℕ ℕ ℕ ℕ) (chosen : ℕ → Option ℕ) (nodes required : List ℕ) (at : ℕ) : Type 0 where
  pub sound : (r : ℕ) → Contains required r → IsRequired rules chosen r
  pub lines : (r : ℕ) → Contains rules.lines r → Contains required r
  pub wanted : (link r : ℕ) → Contains (take at nodes) link → Contains (wants_linked rules link (chosen (rules.on link))) r → Contains required r

-- the same walk, where the nodes that were known on other names lead to nothing new
pub record IsFollowed (rules : Rules ℕ ℕ ℕ ℕ) (chosen : ℕ → Option ℕ) (nodes required : List ℕ) (known_before : KnownBefore) (at : ℕ) : Type 0 where
  pub closing : IsClosing rules chosen nodes at
  pub requiring : IsRequiring rules chosen nodes required at
  pub within : known_before.nodes ≤ length nodes
  pub linked : (link node : ℕ) → Contains (take known_before.nodes nodes) link → rules.on link ≢ known_before.last_taken → Contains (nodes_linked rules link (chosen (rules.on link))) node → Contains nodes node
  pub wanted : (link r : ℕ) → Contains (take known_before.nodes nodes) link → rules.on link ≢ known_before.last_taken → Contains (wants_linked rules link (chosen (rules.on link))) r → Contains required r

-- the requirements that were known on other names don't clash
abbrev pub HaveFit : Rules ℕ ℕ ℕ ℕ → (ℕ → Option ℕ) → List ℕ → KnownBefore → Type 0
HaveFit rules chosen required known_before = (r : ℕ) → Contains (take known_before.required required) r → rules.name r ≢ known_before.last_taken → clash_in rules chosen r ≡ false

-- a front has all that is needed and required under what it takes, and tells whether something clashes
pub record IsFront (t : TableParts) (front : Front) : Type 0 where
  pub room : length front.taken.items ≡ length t.candidates
  pub needed_room : front.needed.room ≡ length t.nodes
  pub required_room : front.required.room ≡ length t.requirements
  pub needed : AreNeeded (rules_of t) (taken_at front.taken.items) front.needed.members
  pub required : AreRequired (rules_of t) (taken_at front.taken.items) front.required.members
  pub clashes : front.clashes ≡ list_any (clash_in (rules_of t) (taken_at front.taken.items)) front.required.members

-- and it takes what the frames take
pub record IsFrontOf (t : TableParts) (frames : List Frame) (front : Front) : Type 0 where
  pub stands : IsFront t front
  pub same : (n : ℕ) → taken_at front.taken.items n ≡ version_pinned nat_cmp (pins_of frames) n
