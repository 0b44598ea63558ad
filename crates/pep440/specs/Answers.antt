-- What a call answers beside what is expected of it.
use Rattle.std.specs.Prelude.{◌≡◌, ⊤, Result, Ok, Err}
use Rattle.pep440.specs.declared.fault.Fault.{Fault}
use Rattle.pep440.specs.declared.fault.Fault.TheVariants.{BadVersion, NumberTooLarge, BadClause, ArbitraryEquality, OutOfMemory}

-- a fault that comes of the text is the one that is expected
abbrev pub Fails : {Y : Type 0} → Fault → Result Y Fault → Type 0
Fails OutOfMemory expected = ⊤
Fails BadVersion expected = expected ≡ Err BadVersion
Fails NumberTooLarge expected = expected ≡ Err NumberTooLarge
Fails (BadClause k) expected = expected ≡ Err (BadClause k)
Fails ArbitraryEquality expected = expected ≡ Err ArbitraryEquality

-- what a call answers, seen by view, is what is expected, unless memory ran out
abbrev pub Gives : {X Y : Type 0} → (X → Y) → Result X Fault → Result Y Fault → Type 0
Gives view (Ok x) expected = expected ≡ Ok (view x)
Gives view (Err e) expected = Fails e expected
