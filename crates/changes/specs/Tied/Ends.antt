-- The places behind splices, as they are gone over.
-- Tied to `AreSplices` by the contract of `Change::new`; need not be read.
use Rattle.std.specs.Prelude.{ℕ, ◌+◌, ◌-◌, ◌^◌, nat_lt, ◌&&◌, min, List, length, Option, Some, None, if◌then◌else◌}
use Rattle.changes.specs.Changes.{PlacesFit, RiseFrom, back}
use Rattle.changes.specs.declared.change.ends.Ends.{Ends}
use Rattle.changes.specs.declared.change.parts.Splice.{Splice}

-- splices rise, and their places fit
pub record DoRise (splices : List Splice) : Type 0 where
  pub apart : RiseFrom 0 splices
  pub places : PlacesFit splices
  pub places_back : PlacesFit (back 0 0 splices)

-- the places behind a splice with this place in the new lines
abbrev pub ends_of : Splice → ℕ → Ends
ends_of splice place = record { old = min (splice.place + length splice.old) (2 ^ 64 - 1); new = min (place + length splice.new) (2 ^ 64 - 1) }

-- the place in the new lines of a splice behind others, where a kept line stands before it and the place fits
abbrev pub place_behind : Ends → Splice → Option ℕ
place_behind ends splice =
    if nat_lt ends.old splice.place && nat_lt (ends.new + (splice.place - ends.old)) (2 ^ 64) then Some (ends.new + (splice.place - ends.old)) else None
