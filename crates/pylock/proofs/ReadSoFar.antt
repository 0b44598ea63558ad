-- Lists that are read one item after the other.
use Rattle.std.proofs.Common.{◌≡◌, List, [], ◌∷◌, ◌++◌, Result, Ok, Err, refl, sym, ap, append_assoc}
use Rattle.pylock.specs.declared.flaw.Flaw.{Flaw}
use Rattle.pylock.specs.Flaws.{◌>>=◌}

-- what was read so far, before what is still to be read
abbrev pub before : {A : Type 0} → List A → Result (List A) Flaw → Result (List A) Flaw
before done read = read >>= λ xs. Ok (done ++ xs)

pub before-none : {A : Type 0} (read : Result (List A) Flaw) → before [] read ≡ read
before-none (Ok xs) = refl
before-none (Err e) = refl

pub before-first : {A : Type 0} (done : List A) (x : A) (read : Result (List A) Flaw) → before done (read >>= λ xs. Ok (x ∷ xs)) ≡ before (done ++ x ∷ []) read
before-first done x (Ok xs) = ap Ok (sym (append_assoc done (x ∷ []) xs))
before-first done x (Err e) = refl
