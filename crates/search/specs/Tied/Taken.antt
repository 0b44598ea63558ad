-- What is taken, with the choice of one frame more.
-- Tied to `IsBest` by the contracts of the searches; need not be read.
use Rattle.std.specs.Prelude.{ℕ, List, Option, Some, None, ◌≢◌, ◌≡◌, ◌<◌, length}
use Rattle.std.specs.List.{Contains, slice_index_or}
use Rattle.search.specs.declared.parts.Frame.{Frame}

-- the names of the frames are less than the bound
abbrev pub AreKnownFrames : ℕ → List Frame → Type 0
AreKnownFrames bound frames = (f : Frame) → Contains frames f → f.name < bound

-- what is taken with the choice of one frame more, unless its name was taken
pub record TakesFirst (old new : List (Option ℕ)) (f : Frame) : Type 0 where
  pub room : length new ≡ length old
  pub own : slice_index_or old f.name None ≡ None → slice_index_or new f.name None ≡ Some f.place
  pub kept : (n v : ℕ) → slice_index_or old n None ≡ Some v → slice_index_or new n None ≡ Some v
  pub others : (n : ℕ) → n ≢ f.name → slice_index_or new n None ≡ slice_index_or old n None
