-- A version is made of the parts in its spans, where their numbers fit.
use Rattle.std.proofs.Common.{◌≡◌, ℕ, ◌+◌, ◌-◌, ◌*◌, ◌^◌, ◌<◌, Bool, true, false, eqb, ltb, ◌&&◌, List, [], ◌∷◌, length, Option, Some, None, Ok, Err, refl, sym, ap, subst, ◌∙◌, arith, inl, inr}
use Rattle.std.specs.List.{list_all, filter_map}
use Rattle.std.specs.Option.{option_map}
use Rattle.std.specs.Prelude.{option_to_list}
use Rattle.std.proofs.lemmas.Bool.{cases_Bool}
use Rattle.pep440.specs.declared.fault.Fault.{Fault}
use Rattle.pep440.specs.declared.fault.Fault.TheVariants.{ArbitraryEquality, BadClause, BadVersion, NumberTooLarge, OutOfMemory}
use Rattle.pep440.specs.declared.parts.LocalPart.{LocalPart}
use Rattle.pep440.specs.declared.parts.LocalPart.TheVariants.{Number, Word}
use Rattle.pep440.specs.declared.parts.Pre.{Pre}
use Rattle.pep440.specs.declared.words.PreWord.{PreWord}
use Rattle.pep440.specs.declared.words.PreWord.TheVariants as words
use Rattle.pep440.specs.Grammar.{value_from}
use Rattle.pep440.specs.Answers.{Fails}
use Rattle.pep440.specs.Tied.Reading.{Spans, fitting, fitting_numbers, locals_of, numbers_from, parts_in, pre_of, pre_with}
use Rattle.pep440.specs.Version.{IsVersion, VersionParts, fits, part_number, pre_number, pre_numbers}
use Rattle.pep440.specs.Tied.Views.{capped, capped_option, capped_pre, fitting_locals, is_local, part_fits}
use Rattle.pep440.proofs.ReleaseFacts.{all_fit, all_fit-append}
use Rattle.pep440.proofs.LocalsAreLawful.{locals-lawful}

local_numbers : (ps : List LocalPart) → all_fit (filter_map part_number ps) ≡ list_all part_fits ps
local_numbers [] = refl
local_numbers (Word w ∷ ps) = local_numbers ps
local_numbers (Number n ∷ ps) = ap (λ b. ltb n (2 ^ 64) && b) (local_numbers ps)

-- the parts fit where each of them does
pub fits-parts : (v : VersionParts) → fits v ≡ (ltb v.epoch (2 ^ 64) && (all_fit v.release && (all_fit (pre_numbers v.pre) && (all_fit (option_to_list v.post) && (all_fit (option_to_list v.dev) && list_all part_fits v.local)))))
fits-parts v = ap (λ b. ltb v.epoch (2 ^ 64) && b)
    (all_fit-append v.release _ ∙ ap (λ b. all_fit v.release && b)
    (all_fit-append (pre_numbers v.pre) _ ∙ ap (λ b. all_fit (pre_numbers v.pre) && b)
    (all_fit-append (option_to_list v.post) _ ∙ ap (λ b. all_fit (option_to_list v.post) && b)
    (all_fit-append (option_to_list v.dev) _ ∙ ap (λ b. all_fit (option_to_list v.dev) && b) (local_numbers v.local)))))

-- ---- the parts that were read

capped-ok : (n m : ℕ) → capped n ≡ Ok m → (n ≡ m) × (ltb n (2 ^ 64) ≡ true)
capped-ok n m h = elim (cases_Bool (ltb n (2 ^ 64))) [
  | inl good ↦ (let g = (rw good at h) in cc, good)
  | inr bad ↦ absurd (let g = (rw bad at h) in cc)
]

capped_option-ok : (o : Option (List ℕ)) (p : Option ℕ) → capped_option o ≡ Ok p → (option_map (value_from 0) o ≡ p) × (all_fit (option_to_list (option_map (value_from 0) o)) ≡ true)
capped_option-ok None p h = (cc, refl)
capped_option-ok (Some digits) p h = elim (cases_Bool (ltb (value_from 0 digits) (2 ^ 64))) [
  | inl good ↦ (let g = (rw good at h) in cc, rw good refl)
  | inr bad ↦ absurd (let g = (rw bad at h) in cc)
]

pre_number-with : (w : PreWord) (n : ℕ) → pre_number (pre_with w n) ≡ n
pre_number-with words.Alpha n = refl
pre_number-with words.Beta n = refl
pre_number-with words.Candidate n = refl

capped_pre-ok : (o : Option (PreWord × List ℕ)) (p : Option Pre) → capped_pre o ≡ Ok p → (option_map pre_of o ≡ p) × (all_fit (pre_numbers (option_map pre_of o)) ≡ true)
capped_pre-ok None p h = (cc, refl)
capped_pre-ok (Some q) p h = elim (cases_Bool (ltb (value_from 0 q.1) (2 ^ 64))) [
  | inl good ↦ (let g = (rw good at h) in cc, rw (pre_number-with q.0 (value_from 0 q.1), good) refl)
  | inr bad ↦ absurd (let g = (rw bad at h) in cc)
]

numbers-ok : (ms ns : List ℕ) → fitting_numbers ms ≡ Ok ns → (ms ≡ ns) × (all_fit ms ≡ true)
numbers-ok ms ns h = elim (cases_Bool (all_fit ms)) [
  | inl good ↦ (let g = (rw good at h) in cc, good)
  | inr bad ↦ absurd (let g = (rw bad at h) in cc)
]

locals-ok : (ps qs : List LocalPart) → fitting_locals ps ≡ Ok qs → (ps ≡ qs) × (list_all part_fits ps ≡ true)
locals-ok ps qs h = elim (cases_Bool (list_all part_fits ps)) [
  | inl good ↦ (let g = (rw good at h) in cc, good)
  | inr bad ↦ absurd (let g = (rw bad at h) in cc)
]

numbers_from-some : (n : ℕ) (text : List ℕ) → 0 < length (numbers_from n text)
numbers_from-some n [] = omega arith
numbers_from-some n (b ∷ rest) = elim (cases_Bool (eqb b 46)) [ inl dot ↦ rw dot (omega arith) | inr other ↦ rw other (numbers_from-some (n * 10 + (b - 48)) rest) ]

-- what was read of each part
pub record PartsRead (s : Spans) (v : VersionParts) : Type 0 where
  pub epoch : capped (value_from 0 s.epoch) ≡ Ok v.epoch
  pub release : fitting_numbers (numbers_from 0 s.release) ≡ Ok v.release
  pub pre : capped_pre s.pre ≡ Ok v.pre
  pub post : capped_option s.post ≡ Ok v.post
  pub dev : capped_option s.dev ≡ Ok v.dev
  pub local : fitting_locals (locals_of s.local) ≡ Ok v.local

parts-same : (s : Spans) (v : VersionParts) → PartsRead s v → (parts_in s ≡ v) × (fits (parts_in s) ≡ true)
parts-same s v r =
    let a = capped-ok (value_from 0 s.epoch) v.epoch r.epoch in
    let b = numbers-ok (numbers_from 0 s.release) v.release r.release in
    let c = capped_pre-ok s.pre v.pre r.pre in
    let d = capped_option-ok s.post v.post r.post in
    let e = capped_option-ok s.dev v.dev r.dev in
    let f = locals-ok (locals_of s.local) v.local r.local in (
      λ i. record { epoch = a.0 i; release = b.0 i; pre = c.0 i; post = d.0 i; dev = e.0 i; local = f.0 i },
      fits-parts (parts_in s) ∙ rw (a.1, b.1, c.1, d.1, e.1, f.1) refl,
    )

-- the parts that were read are the version
pub version-made : (s : Spans) (v : VersionParts) → PartsRead s v → fitting (Some (parts_in s)) ≡ Ok v
version-made s v r = let p = parts-same s v r in rw p.1 (ap (λ (w : VersionParts). Ok w) p.0)

pub version-lawful : (s : Spans) (v : VersionParts) → is_local s.local ≡ true → PartsRead s v → IsVersion v
version-lawful s v h r =
    let p = parts-same s v r in
    subst (λ (w : VersionParts). IsVersion w) p.0 (record { release = numbers_from-some 0 s.release; local = locals-lawful s.local h; numbers = p.1 })

-- ---- a number that is too large

and-false : (b : Bool) → (b && false) ≡ false
and-false true = refl
and-false false = refl

fault-from : (e : Fault) (v : VersionParts) → fits v ≡ false → e ≡ NumberTooLarge → Fails e (fitting (Some v))
fault-from e v bad same = subst (λ (d : Fault). Fails d (fitting (Some v))) (sym same) (rw bad refl)

locals-large : (ps : List LocalPart) (e : Fault) → fitting_locals ps ≡ Err e → (list_all part_fits ps ≡ false) × (e ≡ NumberTooLarge)
locals-large ps e h = elim (cases_Bool (list_all part_fits ps)) [
  | inl good ↦ absurd (let g = (rw good at h) in cc)
  | inr bad ↦ (bad, let g = (rw bad at h) in cc)
]

numbers-large : (ns : List ℕ) (e : Fault) → fitting_numbers ns ≡ Err e → (all_fit ns ≡ false) × (e ≡ NumberTooLarge)
numbers-large ns e h = elim (cases_Bool (all_fit ns)) [
  | inl good ↦ absurd (let g = (rw good at h) in cc)
  | inr bad ↦ (bad, let g = (rw bad at h) in cc)
]

local-err : (e : Fault) (v : VersionParts) → fitting_locals v.local ≡ Err e → Fails e (fitting (Some v))
local-err e v h =
    let p = locals-large v.local e h in
    fault-from e v (fits-parts v ∙ rw (p.0, and-false, and-false, and-false, and-false, and-false) refl) p.1

pub local-fault : (e : Fault) (v : VersionParts) → Fails e (fitting_locals v.local) → Fails e (fitting (Some v))
local-fault OutOfMemory v h = tt
local-fault NumberTooLarge v h = local-err NumberTooLarge v h
local-fault BadVersion v h = local-err BadVersion v h
local-fault (BadClause k) v h = local-err (BadClause k) v h
local-fault ArbitraryEquality v h = local-err ArbitraryEquality v h
