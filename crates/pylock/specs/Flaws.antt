-- What is read, or a flaw.
use Rattle.std.specs.Prelude.{◌≡◌, ◌⊎◌, Option, Some, None, Result, Ok, Err}
use Rattle.pylock.specs.declared.flaw.Flaw.{Flaw}
use Rattle.pylock.specs.declared.flaw.Flaw.TheVariants.{OtherForm, OutOfMemory}

infixl 10 ◌>>=◌
-- the next step, unless this one has a fault
abbrev pub ◌>>=◌ : {A B E : Type 0} → Result A E → (A → Result B E) → Result B E
(Ok x) >>= f = f x
(Err e) >>= f = Err e

-- what is there
abbrev pub found : {A : Type 0} → Option A → Result A Flaw
found None = Err OtherForm
found (Some x) = Ok x

-- what a call answers, seen by view, is what is expected, unless it found no memory
abbrev pub Gives : {X Y : Type 0} → (X → Y) → Result Y Flaw → Result X Flaw → Type 0
Gives view expected (Ok x) = expected ≡ Ok (view x)
Gives view expected (Err e) = (e ≡ OutOfMemory) ⊎ (expected ≡ Err e)
