-- A value that is known to be there.
use Rattle.std.proofs.Common.{◌≡◌, Option, None, Some, ap}
use Rattle.std.specs.Prelude.{IsSomeAnd}

-- a value that is there and is this one
pub some_with : {X : Type 0} (found : Option X) (x : X) → IsSomeAnd found (λ y. y ≡ x) → found ≡ Some x
some_with None x is = absurd is
some_with (Some y) x is = ap Some is
