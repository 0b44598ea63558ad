-- What is walked anew, and what is known of the solutions that have it.
-- Tied to `IsBest` by the contract of `solved`; need not be read.
use Rattle.std.specs.Prelude.{ℕ, [], true, ◌≡◌, ◌<◌, length, take}
use Rattle.std.specs.List.{Contains}
use Rattle.search.specs.Table.{TableParts, candidates_of, name_of, rules_of}
use Rattle.search.specs.Tied.Front.{IsFrontOf}
use Rattle.search.specs.Tied.Search.{IsSearch, pins_of}
use Rattle.set_conflicts.specs.declared.domains.Domains.{Domains}
use Rattle.set_conflicts.specs.declared.replay.Replay.{Replay}
use Rattle.set_conflicts.specs.Tied.Domains.{Keeps, mark_at, set_at}

-- behind the frames before no solution has a candidate in front of a frame's, and what is left is what solutions with all of them have
pub record IsReplay (t : TableParts) (replay : Replay) : Type 0 where
  pub search : IsSearch (rules_of t) [] replay.frames.items
  pub front : IsFrontOf t replay.frames.items replay.front
  pub keeps : Keeps (rules_of t) (pins_of replay.frames.items) replay.domains

-- the node is marked, and of the candidates of its name so many in front aren't left there
pub record IsTurn (t : TableParts) (domains : Domains) (node turn : ℕ) : Type 0 where
  pub marked : mark_at domains.needed.items node ≡ true
  pub below : node < length domains.sets.items
  pub within : turn < length (candidates_of t (name_of t node))
  pub passed : (v : ℕ) → Contains (take turn (candidates_of t (name_of t node))) v → Contains (set_at domains.sets.items node) v → ⊥
