-- What an answer that isn't refused went through.
use Rattle.std.proofs.Common.{◌≡◌, ℕ, List, Option, Some, None, Result, Ok, Err, refl, inl, inr}
use Rattle.states.specs.declared.refusal.Refusal.TheVariants.{FilesDisagree}
use Rattle.states.specs.declared.refusal.SavedFile.TheVariants.{Lock}
use Rattle.journal.specs.Values.{Refusal}
use Rattle.journal.specs.Opens.{Agrees, Checks, Finds, GoesOn, Then}

pub found : {X A : Type 0} (Is : X → Type 0) (refusal : Refusal) (go_on : X → Result A Refusal → Type 0) (a : A) → Finds Is refusal go_on (Ok a) → (x : X) × Is x × go_on x (Ok a)
found Is refusal go_on a (inl h) = h
found Is refusal go_on a (inr h) = absurd (let is : Ok a ≡ Err refusal = h.1 in cc)

pub checked : {A : Type 0} (fact : Type 0) (refusal : Refusal) (go_on : Result A Refusal → Type 0) (a : A) → Checks fact refusal go_on (Ok a) → fact × go_on (Ok a)
checked fact refusal go_on a (inl h) = h
checked fact refusal go_on a (inr h) = absurd (let is : Ok a ≡ Err refusal = h.1 in cc)

went_on : {X A : Type 0} (Part : Result X Refusal → Type 0) (go_on : X → Result A Refusal → Type 0) (a : A) (part : Result X Refusal) → Part part → GoesOn go_on part (Ok a) → (x : X) × Part (Ok x) × go_on x (Ok a)
went_on Part go_on a (Ok x) is h = (x, is, h)
went_on Part go_on a (Err refusal) is h = absurd (let no : Ok a ≡ Err refusal = h in cc)

pub went-on : {X A : Type 0} (Part : Result X Refusal → Type 0) (go_on : X → Result A Refusal → Type 0) (a : A) → Then Part go_on (Ok a) → (x : X) × Part (Ok x) × go_on x (Ok a)
went-on Part go_on a h = went_on Part go_on a h.0 h.1 h.2

pub agreed : {A : Type 0} (odd : Option (List ℕ)) (go_on : Result A Refusal → Type 0) (a : A) → Agrees odd go_on (Ok a) → (odd ≡ None) × go_on (Ok a)
agreed None go_on a h = (refl, h)
agreed (Some name) go_on a h = absurd (let is : Ok a ≡ Err (FilesDisagree (Lock name)) = h in cc)
