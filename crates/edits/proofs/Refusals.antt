-- Refusals that calls pass on.
use Rattle.std.proofs.Common.{◌≡◌, ◌⊎◌, Bool, true, false, Option, Some, None, Ok, Err, refl, ap, inl, inr, if◌then◌else◌}
use Rattle.std.specs.Option.{option_or}
use Rattle.edits.specs.Refused.{or_refused}
use Rattle.states.specs.declared.refusal.Refusal.{Refusal}
use Rattle.states.specs.declared.refusal.Refusal.TheVariants.{BadText, OutOfMemory}

-- what refuses a part refuses the whole
pub refused-on : {A B : Type 0} (refusal : Option Refusal) (a : A) (b : B) (e : Refusal) → (e ≡ OutOfMemory) ⊎ (or_refused refusal a ≡ Err e)
    → (e ≡ OutOfMemory) ⊎ (or_refused refusal b ≡ Err e)
refused-on refusal a b e (inl memory) = inl memory
refused-on None a b e (inr refused) = cc
refused-on (Some r) a b e (inr refused) = let same : r ≡ e = cc in inr (ap (λ (x : Refusal). Err x) same)

-- where something was given, nothing is refused
pub accepted : {A : Type 0} (refusal : Option Refusal) (a b : A) → or_refused refusal a ≡ Ok b → (refusal ≡ None) × (a ≡ b)
accepted None a b e = (refl, cc)
accepted (Some r) a b e = cc

-- a text that was read as what it should be is that
pub read-so : {A : Type 0} (b : Bool) (x y : A) → (if b then Ok x else Err BadText) ≡ Ok y → (b ≡ true) × (x ≡ y)
read-so true x y e = (refl, cc)
read-so false x y e = cc

-- where it was refused, it isn't
pub bad-so : {A : Type 0} (b : Bool) (x : A) (e : Refusal) → (if b then Ok x else Err BadText) ≡ Err e → (b ≡ false) × (e ≡ BadText)
bad-so true x e h = cc
bad-so false x e h = (refl, cc)

-- a text that doesn't read refuses what needs it
pub bad-on : {A B : Type 0} (b : Bool) (x : A) (given : Option Refusal) (y : B) (e : Refusal) → (e ≡ OutOfMemory) ⊎ ((if b then Ok x else Err BadText) ≡ Err e)
    → (e ≡ OutOfMemory) ⊎ (or_refused (if b then given else Some BadText) y ≡ Err e)
bad-on b x given y e (inl memory) = inl memory
bad-on true x given y e (inr refused) = cc
bad-on false x given y e (inr refused) = let same : BadText ≡ e = cc in inr (ap (λ (r : Refusal). Err r) same)

-- the first of two refusals refuses both
pub first-on : {A B : Type 0} (refusal other : Option Refusal) (a : A) (b : B) (e : Refusal) → (e ≡ OutOfMemory) ⊎ (or_refused refusal a ≡ Err e)
    → (e ≡ OutOfMemory) ⊎ (or_refused (option_or refusal other) b ≡ Err e)
first-on refusal other a b e (inl memory) = inl memory
first-on None other a b e (inr refused) = cc
first-on (Some r) other a b e (inr refused) = let same : r ≡ e = cc in inr (ap (λ (x : Refusal). Err x) same)
