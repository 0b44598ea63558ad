-- The lines of a journal, written one after the other.
use Rattle.std.proofs.Common.{◌≡◌, ℕ, ◌+◌, ◌-◌, ◌<◌, ◌≤◌, List, [], ◌∷◌, ◌++◌, length, get_or, take, Some, Result, Ok, Err, refl, arith, true}
use Rattle.std.proofs.lemmas.List.{flat_map_more, take_all, take_more}
use Rattle.std.proofs.lemmas.Option.{get_or_from_slice_get, slice_get_within}
use Rattle.std.specs.List.{AllByRecursion, flat_map}
use Rattle.std.specs.Prelude.{OnOk, slice_get}
use Rattle.std.specs.Str.{is_utf8}
use Rattle.changes.specs.Changes.{ChangeParts}
use Rattle.serde_json.specs.Data.{Data}
use Rattle.serde_json.specs.Read.{read}
use Rattle.serde_json.specs.Written.{compact_text}
use Rattle.journal.specs.Tied.{AreWritten, IsWritten}
use Rattle.journal.proofs.StepsJoined.{all-append}
use Rattle.journal_format.specs.declared.header.Header.{Header}
use Rattle.journal_format.specs.Tied.LawfulTargets.{IsLawfulStep}
use Rattle.journal_format.specs.Written.{header_data, line_of, step_data}

-- the line of one change more
pub lines_more : (front mark : List ℕ) (changes : List ChangeParts) (place : ℕ) (change : ChangeParts) → slice_get changes ((place + 1) - 1) ≡ Some change
    → mark ≡ front ++ flat_map (λ c. line_of (step_data c)) (take place changes) → mark ++ line_of (step_data change) ≡ front ++ flat_map (λ c. line_of (step_data c)) (take (place + 1) changes)
lines_more front mark changes place change at before =
    let here : (place + 1) - 1 ≡ place = omega arith in
    let found : slice_get changes place ≡ Some change = rw here at at in
    let is : get_or changes place change ≡ change = get_or_from_slice_get changes place change change found in
    let within : place < length changes = slice_get_within changes place change found in
    rw (take_more changes place change within, is, ← flat_map_more (λ c. line_of (step_data c)) front (take place changes) change, ← before) refl

-- the lines of all changes
pub lines_all : (front mark : List ℕ) (changes : List ChangeParts) (place : ℕ) → length changes ≤ place → mark ≡ front ++ flat_map (λ c. line_of (step_data c)) (take place changes)
    → mark ≡ front ++ flat_map (λ c. line_of (step_data c)) changes
lines_all front mark changes place past before = rw (take_all place changes past) at before

-- a text that is read back is that of the value
pub is-written : (text : List ℕ) (d : Data) → text ≡ compact_text d → is_utf8 text ≡ true → read text ≡ Some d → IsWritten d
is-written text d is utf8 reads = record { utf8 = rw (← is) utf8; reads = rw (← is) reads }

-- what holds anyway holds where a call succeeds
pub on-ok : {T E : Type 0} (result : Result T E) (P : Type 0) → P → OnOk result P
on-ok (Ok x) P p = p
on-ok (Err e) P p = tt

-- one change more that is read back
pub written_more : (changes : List ChangeParts) (place : ℕ) (change : ChangeParts) → slice_get changes ((place + 1) - 1) ≡ Some change
    → AllByRecursion (λ c. IsWritten (step_data c)) (take place changes) → IsWritten (step_data change) → AllByRecursion (λ c. IsWritten (step_data c)) (take (place + 1) changes)
written_more changes place change at before written =
    let here : (place + 1) - 1 ≡ place = omega arith in
    let found : slice_get changes place ≡ Some change = rw here at at in
    let is : get_or changes place change ≡ change = get_or_from_slice_get changes place change change found in
    let within : place < length changes = slice_get_within changes place change found in
    rw (take_more changes place change within, is) (all-append (λ c. IsWritten (step_data c)) (take place changes) (change ∷ []) before (written, tt))

-- all changes are
pub written_all : (header : Header) (changes : List ChangeParts) (place : ℕ) → length changes ≤ place → IsWritten (header_data header)
    → AllByRecursion (λ c. IsWritten (step_data c)) (take place changes) → AreWritten header changes
written_all header changes place past first others = record { header_line = first; step_lines = rw (take_all place changes past) at others }

-- one change more that is lawful, and all of them
pub lawful_more : (changes : List ChangeParts) (place : ℕ) (change : ChangeParts) → slice_get changes ((place + 1) - 1) ≡ Some change → AllByRecursion IsLawfulStep (take place changes) → IsLawfulStep change
    → AllByRecursion IsLawfulStep (take (place + 1) changes)
lawful_more changes place change at before lawful =
    let here : (place + 1) - 1 ≡ place = omega arith in
    let found : slice_get changes place ≡ Some change = rw here at at in
    let is : get_or changes place change ≡ change = get_or_from_slice_get changes place change change found in
    let within : place < length changes = slice_get_within changes place change found in
    rw (take_more changes place change within, is) (all-append IsLawfulStep (take place changes) (change ∷ []) before (lawful, tt))

pub lawful_all : (changes : List ChangeParts) (place : ℕ) → length changes ≤ place → AllByRecursion IsLawfulStep (take place changes) → AllByRecursion IsLawfulStep changes
lawful_all changes place past before = rw (take_all place changes past) at before
