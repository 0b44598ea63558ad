-- The steps of a search that learns.
-- Tied to `IsBest` by the contract of `learned_best`; need not be read.
use Rattle.std.specs.Prelude.{ℕ, List, [], ◌∷◌, ◌++◌, Option, Some, None, ◌≡◌, ◌<◌, ◌+◌, ◌⊎◌, length}
use Rattle.std.specs.List.{Contains}
use Rattle.search.specs.declared.conflict.NodeChoice.{NodeChoice}
use Rattle.learning_search.specs.declared.partial_solution.PartialSolution.{PartialSolution}
use Rattle.learning_search.specs.declared.learned_search.Progress.{Progress}
use Rattle.learning_search.specs.declared.learned_search.Progress.TheVariants.{Trying, Solved, Refuted}
use Rattle.learning_search.specs.declared.assignment.Assignment.{Assignment}
use Rattle.learning_search.specs.declared.candidate_queue.CandidateQueue.{CandidateQueue}
use Rattle.search.specs.Conflicts.{EachFollows, IsRefutation}
use Rattle.search.specs.Known.{AreKnown}
use Rattle.learning_search.specs.Tied.Learned.{IsLearning, IsPartialSolution, IsCandidateQueue, chosen_assigned}
use Rattle.search.specs.Solutions.{IsBest}
use Rattle.search.specs.Table.{TableParts, rules_of, candidates_of, name_of, places_eq}
use Rattle.learning_search.specs.Tied.Refusals.{RefusesOneMore}

-- each recorded conflict follows from those before it and is known to the table, and what is assigned is in keeping with them
pub record IsLearned (t : TableParts) (p : PartialSolution) (conflicts : List (List (NodeChoice ℕ ℕ))) : Type 0 where
  pub partial : IsPartialSolution t p
  pub follows : EachFollows (rules_of t) places_eq [] conflicts
  pub known : AreKnown t conflicts
  pub learning : IsLearning (rules_of t) conflicts [] p.assignments.items

abbrev pub version_of : Option (NodeChoice ℕ ℕ) → Option ℕ
version_of None = None
version_of (Some c) = Some c.version

-- a candidate is refused for a clash with another choice, and their conflict is recorded
pub record IsRefusedFor (old new : CandidateQueue) (before after : List (List (NodeChoice ℕ ℕ))) (candidate other : NodeChoice ℕ ℕ) : Type 0 where
  pub conflict : List (NodeChoice ℕ ℕ)
  pub recorded : after ≡ before ++ conflict ∷ []
  pub one : Contains conflict candidate
  pub two : Contains conflict other
  pub only : (c : NodeChoice ℕ ℕ) → Contains conflict c → (c ≡ candidate) ⊎ (c ≡ other)
  pub refused : RefusesOneMore old new conflict candidate

-- the choice of some node is given back, with those behind it, and its next candidate is tried
pub record IsBack (old new : List Assignment) (queue : CandidateQueue) : Type 0 where
  pub last : Assignment
  pub rest : List Assignment
  pub was : old ≡ new ++ last ∷ rest
  pub node : queue.node ≡ last.queue.node
  pub turn : queue.turn ≡ last.queue.turn + 1

-- the next candidate of the same node is tried
pub record IsRetried (t : TableParts) (old new : List Assignment) (before after : CandidateQueue) : Type 0 where
  pub assignments : new ≡ old
  pub node : after.node ≡ before.node
  pub turn : after.turn ≡ before.turn + 1
  pub within : before.turn < length (candidates_of t (name_of t before.node))

-- the node has a choice, and the next one is tried
pub record IsEntered (t : TableParts) (old new : List Assignment) (before after : CandidateQueue) : Type 0 where
  pub place : ℕ
  pub assignments : new ≡ old ++ (record { queue = before; place = place }) ∷ []
  pub turn : after.turn ≡ 0

abbrev pub IsOnward : TableParts → List Assignment → List Assignment → CandidateQueue → CandidateQueue → Type 0
IsOnward t old new before after = IsRetried t old new before after ⊎ (IsEntered t old new before after ⊎ IsBack old new after)

-- what holds of a search as far as it has come
abbrev pub StandsAt : TableParts → PartialSolution → List (List (NodeChoice ℕ ℕ)) → Progress → Type 0
StandsAt t p conflicts (Trying queue) = IsLearned t p conflicts × IsCandidateQueue (rules_of t) conflicts p.assignments.items queue
StandsAt t p conflicts Solved = IsPartialSolution t p × IsBest (rules_of t) (chosen_assigned (rules_of t) p.assignments.items)
StandsAt t p conflicts Refuted = IsRefutation (rules_of t) places_eq conflicts × AreKnown t conflicts

abbrev pub GoesOnward : TableParts → List Assignment → List Assignment → CandidateQueue → Progress → Type 0
GoesOnward t old new before (Trying queue) = IsOnward t old new before queue
GoesOnward t old new before Solved = Unit {0}
GoesOnward t old new before Refuted = Unit {0}

-- the first candidate of a node is tried, or the search is at its end
abbrev pub TriesFirst : Progress → Type 0
TriesFirst (Trying queue) = queue.turn ≡ 0
TriesFirst Solved = Unit {0}
TriesFirst Refuted = ⊥
