-- What a call that takes memory answers.
use Rattle.std.specs.Prelude.{◌≡◌, ◌⊎◌, Result, Ok, Err}

-- the call answered what is expected, or found no memory
abbrev pub Answers : {T E : Type 0} → E → Result T E → Result T E → Type 0
Answers memory expected (Ok value) = expected ≡ Ok value
Answers memory expected (Err error) = (error ≡ memory) ⊎ (expected ≡ Err error)
