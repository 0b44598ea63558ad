-- Numbers below a bound.
use Rattle.std.specs.Prelude.{ℕ, List, ◌<◌}
use Rattle.std.specs.List.{Contains}

abbrev pub EachBelow : ℕ → List ℕ → Type 0
EachBelow bound ns = (n : ℕ) → Contains ns n → n < bound
