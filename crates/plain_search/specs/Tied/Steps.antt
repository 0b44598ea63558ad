-- The steps of a search.
-- Tied to `IsBest` by the contract of `best`; need not be read.
use Rattle.std.specs.Prelude.{ℕ, List, [], ◌∷◌, ◌++◌, Bool, true, false, ◌≡◌, ◌<◌, ◌≤◌, ◌+◌, length}
use Rattle.std.specs.List.{slice_index_or}
use Rattle.search.specs.declared.parts.Frame.{Frame}
use Rattle.plain_search.specs.declared.backtracking.Step.{Step}
use Rattle.plain_search.specs.declared.backtracking.Step.TheVariants.{Complete, Entered, Refuted}
use Rattle.search.specs.Solutions.{version_pinned}
use Rattle.search.specs.FirstWalk.{IsComplete}
use Rattle.search.specs.Tied.Search.{pins_of, IsSearch, IsRefuted}
use Rattle.search.specs.Table.{TableParts, rules_of, candidates_of}

-- a frame on this name, with the candidate of this turn
pub record IsAt (t : TableParts) (n : ℕ) (turn : ℕ) (f : Frame) : Type 0 where
  pub named : f.name ≡ n
  pub turned : f.turn ≡ turn
  pub within : turn < length (candidates_of t n)
  pub place : f.place ≡ slice_index_or (candidates_of t n) turn f.place

-- such a frame is pushed, where there is such a candidate, and else nothing changes
abbrev pub IsTried : TableParts → ℕ → ℕ → List Frame → List Frame → Bool → Type 0
IsTried t n turn old new true = (f : Frame) × IsAt t n turn f × (new ≡ old ++ f ∷ [])
IsTried t n turn old new false = (new ≡ old) × (length (candidates_of t n) ≤ turn)

-- the choice of some frame moves on to the next candidate, and the frames behind it are dropped
pub record IsForward (old new : List Frame) : Type 0 where
  pub front : List Frame
  pub last : Frame
  pub next : Frame
  pub rest : List Frame
  pub was : old ≡ front ++ last ∷ rest
  pub is : new ≡ front ++ next ∷ []
  pub same : next.name ≡ last.name
  pub later : next.turn ≡ last.turn + 1

abbrev pub IsStep : TableParts → List Frame → List Frame → Step → Type 0
IsStep t old new Complete = (new ≡ old) × IsComplete (rules_of t) (version_pinned (rules_of t).compare (pins_of old))
IsStep t old new Refuted = (new ≡ old) × IsRefuted (rules_of t) (pins_of old)
IsStep t old new Entered = (f : Frame) × (new ≡ old ++ f ∷ []) × IsSearch (rules_of t) [] new
