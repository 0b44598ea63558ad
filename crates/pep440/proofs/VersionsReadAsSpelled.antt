-- The law of reading versions: it answers what the grammar says.
use Rattle.std.proofs.Common.{◌≡◌, ℕ, true, false, ◌⊎◌, List, Option, Some, None, Result, Ok, Err, refl, sym, ap, ◌∙◌, inl, inr}
use Rattle.std.specs.Prelude.{IsOkUnless}
use Rattle.std.proofs.lemmas.Bool.{cases_Bool}
use Rattle.pep440.specs.declared.fault.Fault.{Fault}
use Rattle.pep440.specs.declared.fault.Fault.TheVariants.{ArbitraryEquality, BadClause, BadVersion, NumberTooLarge, OutOfMemory}
use Rattle.pep440.specs.Version.{VersionParts, fits}
use Rattle.pep440.specs.Grammar.{Spells, ParseAnswers}
use Rattle.pep440.specs.Answers.{Gives}
use Rattle.pep440.specs.Tied.Reading.{fitting, parts_of, version_of}
use Rattle.pep440.proofs.Trims.{parts-spell, spells-parts}

-- a text spells one version at most
pub one_version : (text : List ℕ) (v w : VersionParts) → Spells text v → Spells text w → v ≡ w
one_version text v w h g =
    let a = spells-parts text v h in
    let b = spells-parts text w g in
    cc

pub fitting-ok : (o : Option VersionParts) (v : VersionParts) → fitting o ≡ Ok v → (o ≡ Some v) × (fits v ≡ true)
fitting-ok None v h = absurd cc
fitting-ok (Some w) v h = elim (cases_Bool (fits w)) [
  | inl good ↦ let g = (rw good at h) in let e : w ≡ v = cc in (ap Some e, ap fits (sym e) ∙ good)
  | inr bad ↦ absurd (let g = (rw bad at h) in cc)
]

fitting-large : (o : Option VersionParts) → fitting o ≡ Err NumberTooLarge → (v : VersionParts) × (o ≡ Some v) × (fits v ≡ false)
fitting-large None h = absurd cc
fitting-large (Some w) h = elim (cases_Bool (fits w)) [
  | inl good ↦ absurd (let g = (rw good at h) in cc)
  | inr bad ↦ (w, refl, bad)
]

pub fitting-fault : (o : Option VersionParts) (e : Fault) → fitting o ≡ Err e → (o ≡ None) × (e ≡ BadVersion) ⊎ (e ≡ NumberTooLarge)
fitting-fault None e h = inl (refl, cc)
fitting-fault (Some w) e h = elim (cases_Bool (fits w)) [
  | inl good ↦ absurd (let g = (rw good at h) in cc)
  | inr bad ↦ inr (let g = (rw bad at h) in cc)
]

pub answers-read : (text : List ℕ) (r : Result VersionParts Fault) → Gives (λ v. v) r (version_of text) → ParseAnswers text r
answers-read text (Ok v) h = let p = fitting-ok (parts_of text) v h in (parts-spell text v p.0, p.1)
answers-read text (Err BadVersion) h = λ v g.
    elim (fitting-fault (parts_of text) BadVersion h) [
      | inl p ↦ let e = spells-parts text v g in let n = p.0 in cc
      | inr e ↦ cc
    ]
answers-read text (Err NumberTooLarge) h = let p = fitting-large (parts_of text) h in (p.0, parts-spell text p.0 p.1, p.2)
answers-read text (Err (BadClause k)) h = elim (fitting-fault (parts_of text) (BadClause k) h) [ inl p ↦ let e = p.1 in cc | inr e ↦ cc ]
answers-read text (Err ArbitraryEquality) h = elim (fitting-fault (parts_of text) ArbitraryEquality h) [ inl p ↦ let e = p.1 in cc | inr e ↦ cc ]
answers-read text (Err OutOfMemory) h = tt

-- a version whose numbers fit is what reading gives
pub spells-version : (text : List ℕ) (v : VersionParts) → Spells text v → fits v ≡ true → version_of text ≡ Ok v
spells-version text v h fine = rw (spells-parts text v h, fine) refl

-- a version whose numbers don't fit is told as such
pub spells-large : (text : List ℕ) (v : VersionParts) → Spells text v → fits v ≡ false → version_of text ≡ Err NumberTooLarge
spells-large text v h wide = rw (spells-parts text v h, wide) refl

fitting-bad : (o : Option VersionParts) → ((v : VersionParts) → ¬ (o ≡ Some v)) → fitting o ≡ Err BadVersion
fitting-bad None none = refl
fitting-bad (Some v) none = absurd (none v refl)

-- a text that spells nothing is no version
pub spells-nothing : (text : List ℕ) → ((v : VersionParts) → ¬ Spells text v) → version_of text ≡ Err BadVersion
spells-nothing text none = fitting-bad (parts_of text) (λ v e. none v (parts-spell text v e))

pub found-read : (text : List ℕ) (r : Result VersionParts Fault) → Gives (λ v. v) r (version_of text) → (v : VersionParts) → Spells text v → fits v ≡ true → IsOkUnless r OutOfMemory
found-read text (Ok w) h v g fine = tt
found-read text (Err BadVersion) h v g fine = let e = spells-version text v g fine in cc
found-read text (Err NumberTooLarge) h v g fine = let e = spells-version text v g fine in cc
found-read text (Err (BadClause k)) h v g fine = let e = spells-version text v g fine in cc
found-read text (Err ArbitraryEquality) h v g fine = let e = spells-version text v g fine in cc
found-read text (Err OutOfMemory) h v g fine = refl
