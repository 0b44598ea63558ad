-- What a first walk keeps true.
-- Tied to `IsBest` by the contract of `first_walk`; need not be read.
use Rattle.std.specs.Prelude.{◌≡◌, ◌≢◌, ◌⊎◌, ◌+◌, ◌*◌, ◌≤◌, ℕ, true, cond, List, [], ◌∷◌, ◌++◌, Option, Some, None, length}
use Rattle.std.specs.BTreeMap.{is_at}
use Rattle.std.specs.Cmp.Lexicographic.{slice_cmp}
use Rattle.std.specs.List.{Contains, flat_map}
use Rattle.std.specs.Map.{lookup}
use Rattle.std.specs.Ordering.{nat_cmp}
use Rattle.std.specs.declared.cmp.Ordering.TheVariants.{Greater}
use Rattle.pep440.specs.Version.{VersionParts}
use Rattle.pep508.specs.Requirement.{RequirementParts}
use Rattle.search.specs.FirstWalk.{IsRequired, IsFirstWalk}
use Rattle.search.specs.Rules.{Rules}
use Rattle.search.specs.Solutions.{IsNeededName, Needed, Pin, version_pinned}
use Rattle.problems.specs.Tied.Growing.{requirements_met}
use Rattle.problems.specs.Problem.{ProblemParts}
use Rattle.problems.specs.Tied.OwnNeeds.{own_rules, own_wants}
use Rattle.problems.specs.declared.node.Node.{Node}

-- its name has a version that it admits and its nodes are followed, or it waits with its name, or it is left to be placed
abbrev pub IsHeld : {N X V R : Type 0} → Rules N X V R → (N → Option V) → (N → Option (List R)) → List X → List R → R → Type 0
IsHeld {N} {X} {V} {R} rules chosen waiting followed left r =
    ((v : V) × (chosen (rules.name r) ≡ Some v) × (rules.admits r v ≡ true) × ((node : X) → Contains (rules.nodes r) node → Contains followed node))
    ⊎ (((rs : List R) × (waiting (rules.name r) ≡ Some rs) × Contains rs r) ⊎ Contains left r)

-- the walk has led to what is chosen, and holds all that is asked for
pub record IsWalked {N X V R : Type 0} (rules : Rules N X V R) (chosen : N → Option V) (waiting : N → Option (List R)) (followed : List X) (left : List R) : Type 0 where
  pub pins : List (Pin N V)
  pub same : (n : N) → chosen n ≡ version_pinned rules.compare pins n
  pub walk : IsFirstWalk rules [] pins
  pub lines : (r : R) → Contains rules.lines r → IsHeld rules chosen waiting followed left r
  pub linked : (node : X) → Contains followed node → (v : V) × (chosen (rules.on node) ≡ Some v) × ((r : R) → Contains (rules.wants node v) r → IsHeld rules chosen waiting followed left r)
  pub named : (n : N) (v : V) → chosen n ≡ Some v → IsNeededName rules chosen n
  pub needed : (node : X) → Contains followed node → Needed rules chosen node
  pub asked : (r : R) → Contains left r → IsRequired rules chosen r
  pub waits : (n : N) (rs : List R) (r : R) → waiting n ≡ Some rs → Contains rs r → (rules.name r ≡ n) × IsRequired rules chosen r
  pub free : (n : N) (rs : List R) → waiting n ≡ Some rs → chosen n ≡ None
  pub some : (n : N) (rs : List R) → waiting n ≡ Some rs → (r : R) × Contains rs r

-- the value that a map's entries have for a name
abbrev pub value_at : {X : Type 0} → List (List ℕ × X) → List ℕ → Option X
value_at entries name = lookup (is_at (slice_cmp nat_cmp name)) entries

-- the same of a problem by what nodes want of their own, over the entries of maps
abbrev pub IsOnWay : ProblemParts → List (List ℕ × VersionParts) → List (List ℕ × List RequirementParts) → List Node → List RequirementParts → Type 0
IsOnWay given taken waiting followed left = IsWalked (own_rules given) (value_at taken) (value_at waiting) followed left

-- the nodes are followed: those that weren't before stand behind the others, and what is wanted at each of these is more
pub record AreFollowed {X R : Type 0} (wants : X → List R) (nodes old new : List X) (more : List R) : Type 0 where
  pub added : List X
  pub whole : new ≡ old ++ added
  pub wanted : more ≡ flat_map wants added
  pub fresh : (node : X) → Contains added node → Contains nodes node × (Contains old node → ⊥)
  pub there : (node : X) → Contains nodes node → Contains new node

-- the same of nodes of a problem whose name has the version; what they want of their own is put behind what is left
abbrev pub Follow : ProblemParts → VersionParts → List Node → List Node → List Node → List RequirementParts → List RequirementParts → Type 0
Follow given version nodes old new left left_new = (more : List RequirementParts) × (left_new ≡ left ++ more) × AreFollowed (λ node. own_wants given node version) nodes old new more

-- a requirement is put behind those that wait with its name, if there are any
pub record IsWaiting (old new : List (List ℕ × List RequirementParts)) (wanted : RequirementParts) : Type 0 where
  pub before : List RequirementParts
  pub row : (value_at old wanted.name ≡ Some before) ⊎ ((value_at old wanted.name ≡ None) × (before ≡ []))
  pub updates : (name : List ℕ) → value_at new name ≡ cond (is_at (slice_cmp nat_cmp wanted.name) name) (Some (before ++ wanted ∷ [])) (value_at old name)

-- what was left is led on without the requirement, with what came behind it: no more than the nodes that are newly followed can want
abbrev pub IsPlaced : ProblemParts → List (List ℕ × VersionParts) → List (List ℕ × List RequirementParts) → List (List ℕ × List RequirementParts) → List Node → List Node → RequirementParts → List RequirementParts → List RequirementParts → Type 0
IsPlaced given taken waiting waiting_new followed followed_new wanted asks asks_new =
    (more : List RequirementParts) × (asks_new ≡ asks ++ more) × (length more + length followed * length (requirements_met given) ≤ length followed_new * length (requirements_met given))
    × ((left : List RequirementParts) → IsOnWay given taken waiting followed (wanted ∷ left) → IsOnWay given taken waiting_new followed_new (left ++ more))

-- the name that was the least of those that wait, and what waited with it
pub record IsTurn (given : ProblemParts) (taken : List (List ℕ × VersionParts)) (waiting : List (List ℕ × List RequirementParts)) (followed : List Node) (name : List ℕ) (asks : List RequirementParts) : Type 0 where
  pub before : List (List ℕ × List RequirementParts)
  pub way : IsOnWay given taken before followed []
  pub row : value_at before name ≡ Some asks
  pub least : (other : List ℕ) (others : List RequirementParts) → value_at before other ≡ Some others → slice_cmp nat_cmp name other ≢ Greater
  pub leaves : (other : List ℕ) → value_at waiting other ≡ cond (is_at (slice_cmp nat_cmp name) other) None (value_at before other)
