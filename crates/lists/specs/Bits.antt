-- Sets of numbers, told by the bits of words.
use Rattle.std.specs.Prelude.{ℕ, zero, suc, Bool, List, [], ◌∷◌, ◌++◌, ◌*◌, ◌/◌, ◌%◌, ◌==◌, ◌≤◌, ◌<◌, ◌↔◌, ◌⊎◌, length, slice_index}
use Rattle.std.specs.Int.{bit_at}
use Rattle.std.specs.List.{Contains, filter}

-- whether the bit of the place is set
abbrev pub has_bit : List ℕ → ℕ → Bool
has_bit words place = bit_at (slice_index words (place / 64)) (place % 64) == 1

-- the numbers from 0 up to the bound
abbrev pub numbers_below : ℕ → List ℕ
numbers_below zero = []
numbers_below (suc n) = numbers_below n ++ n ∷ []

-- the places whose bits are set, from the least on
abbrev pub places_of : List ℕ → List ℕ
places_of words = filter (has_bit words) (numbers_below (64 * length words))

-- the numbers of either set, of both, and of the one that aren't of the other
abbrev pub IsJoined : List ℕ → List ℕ → List ℕ → Type 0
IsJoined set one other = (n : ℕ) → Contains set n ↔ (Contains one n ⊎ Contains other n)

abbrev pub IsCommon : List ℕ → List ℕ → List ℕ → Type 0
IsCommon set one other = (n : ℕ) → Contains set n ↔ (Contains one n × Contains other n)

abbrev pub IsDifference : List ℕ → List ℕ → List ℕ → Type 0
IsDifference set one other = (n : ℕ) → Contains set n ↔ (Contains one n × (Contains other n → ⊥))

-- each number of the one set is one of the other
abbrev pub LiesWithin : List ℕ → List ℕ → Type 0
LiesWithin one other = (n : ℕ) → Contains one n → Contains other n

-- no number from the bound on is in the set
abbrev pub NoneFrom : List ℕ → ℕ → Type 0
NoneFrom set bound = (n : ℕ) → Contains set n → n < bound

-- the least number of the set from the bound on
pub record IsLeastFrom (set : List ℕ) (bound n : ℕ) : Type 0 where
  pub there : Contains set n
  pub from : bound ≤ n
  pub least : (m : ℕ) → Contains set m → bound ≤ m → n ≤ m
