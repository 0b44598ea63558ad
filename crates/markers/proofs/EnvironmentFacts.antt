-- Reading the texts of an environment.
use Rattle.std.proofs.Common.{◌≡◌, ◌⊎◌, ℕ, suc, zero, ◌+◌, ◌<◌, ◌≤◌, Bool, true, false, is_some, List, [], ◌∷◌, ◌++◌, length, get_or, drop, take, Option, Some, None, Result, Ok, Err, refl, sym, ap, ◌∙◌, append_assoc, add-one, inl, inr, lit<, arith}
use Rattle.std.proofs.lemmas.List.{append-nil, flat_map_more, take_more}
use Rattle.std.proofs.Math.Seq.{drop-cons}
use Rattle.std.proofs.Math.ListN.{drop_of_length-le}
use Rattle.std.specs.Prelude.{IsUtf8}
use Rattle.std.specs.List.{flat_map, list_all}
use Rattle.std.specs.Str.{is_utf8}
use Rattle.std.proofs.lemmas.Str.{IsUtf8-from_is_utf8}
use Rattle.serde_json.specs.Data.{Data, null, boolean, number, string, array, object}
use Rattle.serde_json.specs.Find.{as_object}
use Rattle.serde_json.specs.Read.{read}
use Rattle.markers.specs.Comparisons.{version_read}
use Rattle.markers.specs.Environment.{IsEnvironment, Texts, ◌>>=◌, all_variables, checked_text, environment_of, is_lawful, is_unescaped, is_versioned, kept_text, object_in, object_of, place_of, text_for, text_in, texts_in}
use Rattle.markers.specs.declared.fault.Cause.{Cause}
use Rattle.markers.specs.declared.fault.Cause.TheVariants.{BadEnvironment, OutOfMemory}
use Rattle.markers.specs.declared.variable.Variable.{Variable}
use Rattle.markers.specs.declared.variable.Variable.TheVariants as variables

-- ---- the object of a file

-- an object is read as it is
pub an_object : (d : Data) → is_some (as_object d) ≡ true → object_in (Some d) ≡ Ok d
an_object null is = cc
an_object (boolean b) is = cc
an_object (number n) is = cc
an_object (string s) is = cc
an_object (array ds) is = cc
an_object (object ms) is = refl

no_json_by : (b : Bool) (bytes : List ℕ) → is_utf8 bytes ≡ b → (IsUtf8 bytes → read bytes ≡ None) → object_of bytes ≡ Err (BadEnvironment None)
unfolding object_of
no_json_by true bytes is none = rw (is, none (IsUtf8-from_is_utf8 bytes is)) refl
no_json_by false bytes is none = rw is refl

-- bytes that aren't UTF-8, or of which nothing is read
pub no_json : (bytes : List ℕ) → (IsUtf8 bytes → read bytes ≡ None) → object_of bytes ≡ Err (BadEnvironment None)
no_json bytes none = no_json_by (is_utf8 bytes) bytes refl none

-- ---- the loop over the variables

-- what was read so far, before what is still to be read
abbrev pub with_front : Texts → Result Texts Cause → Result Texts Cause
with_front front (Ok texts) = Ok (front ++ texts)
with_front front (Err e) = Err e

pub with_front-none : (read : Result Texts Cause) → with_front [] read ≡ read
with_front-none (Ok texts) = refl
with_front-none (Err e) = refl

with_front-first : (front : Texts) (text : List ℕ) (read : Result Texts Cause) → with_front front (read >>= λ texts. Ok (text ∷ texts)) ≡ with_front (front ++ text ∷ []) read
with_front-first front text (Ok texts) = ap Ok (sym (append_assoc front (text ∷ []) texts))
with_front-first front text (Err e) = refl

-- the texts from a place on: the one there, and the others
texts_in-drop : (d : Data) (vs : List Variable) (i : ℕ) (w : Variable) → i < length vs
    → texts_in d (drop i vs) ≡ (text_in d (get_or vs i w) >>= λ text. texts_in d (drop (suc i) vs) >>= λ texts. Ok (text ∷ texts))
unfolding texts_in
texts_in-drop d vs i w lt = rw (drop-cons vs i w lt) refl

-- the text at the place is read: it goes to the front, and the others are left
pub goes_on : (front : Texts) (d : Data) (vs : List Variable) (i : ℕ) (w : Variable) (text : List ℕ) (total : Result Texts Cause) → i < length vs
    → text_in d (get_or vs i w) ≡ Ok text → with_front front (texts_in d (drop i vs)) ≡ total
    → with_front (front ++ text ∷ []) (texts_in d (drop (i + 1) vs)) ≡ total
goes_on front d vs i w text total lt h before =
    let first : with_front front (texts_in d (drop i vs)) ≡ with_front (front ++ text ∷ []) (texts_in d (drop (suc i) vs)) =
    rw (texts_in-drop d vs i w lt, h) (with_front-first front text (texts_in d (drop (suc i) vs))) in
    rw add-one (sym first ∙ before)

-- the text at the place has a fault: that is the fault of all
pub ends : (front : Texts) (d : Data) (vs : List Variable) (i : ℕ) (w : Variable) (e : Cause) (total : Result Texts Cause) → i < length vs
    → (e ≡ OutOfMemory) ⊎ (text_in d (get_or vs i w) ≡ Err e) → with_front front (texts_in d (drop i vs)) ≡ total
    → (e ≡ OutOfMemory) ⊎ (total ≡ Err e)
ends front d vs i w e total lt (inl memory) before = inl memory
ends front d vs i w e total lt (inr h) before =
    let first : with_front front (texts_in d (drop i vs)) ≡ Err e = rw (texts_in-drop d vs i w lt, h) refl in
    inr (sym before ∙ first)

-- past the last variable all is read
pub is_done : (front : Texts) (d : Data) (vs : List Variable) (i : ℕ) (total : Result Texts Cause) → length vs ≤ i
    → with_front front (texts_in d (drop i vs)) ≡ total → total ≡ Ok front
unfolding texts_in
is_done front d vs i total le before =
    let none : with_front front (texts_in d (drop i vs)) ≡ Ok front = rw (drop_of_length-le vs le) (ap Ok (append-nil front)) in
    sym before ∙ none

-- ---- what was read is lawful

checked_text-lawful_by : (b : Bool) (v : Variable) (text kept : List ℕ) → is_lawful v text ≡ b → checked_text v text ≡ Ok kept → is_lawful v kept ≡ true
checked_text-lawful_by true v text kept is h =
    let same : text ≡ kept = (let e = rw is at h in cc) in
    rw (← same) is
checked_text-lawful_by false v text kept is h = let e = rw is at h in cc

text_for-lawful : (v : Variable) (found : Option (List ℕ)) (kept : List ℕ) → text_for v found ≡ Ok kept → is_lawful v kept ≡ true
text_for-lawful v None kept h = cc
text_for-lawful v (Some text) kept h = checked_text-lawful_by (is_lawful v (kept_text v text)) v (kept_text v text) kept refl h

text_in-lawful : (d : Data) (v : Variable) (kept : List ℕ) → text_in d v ≡ Ok kept → is_lawful v kept ≡ true
unfolding text_in
text_in-lawful d v kept h = text_for-lawful v _ kept h

-- each of the variables has its lawful text
record AreLawful (vs : List Variable) (texts : Texts) : Type 0 where
  count : length texts ≡ length vs
  each : (i : ℕ) (v : Variable) → i < length vs → is_lawful (get_or vs i v) (get_or texts i []) ≡ true

lawful_more : (v : Variable) (vs : List Variable) (text : List ℕ) (texts : Texts) → is_lawful v text ≡ true → AreLawful vs texts → AreLawful (v ∷ vs) (text ∷ texts)
lawful_more v vs text texts first rest = record {
  count = ap suc rest.count;
  each = each_more v vs text texts first rest;
} where
  each_more : (v : Variable) (vs : List Variable) (text : List ℕ) (texts : Texts) → is_lawful v text ≡ true → AreLawful vs texts
      → (i : ℕ) (w : Variable) → i < suc (length vs) → is_lawful (get_or (v ∷ vs) i w) (get_or (text ∷ texts) i []) ≡ true
  each_more v vs text texts first rest zero w lt = first
  each_more v vs text texts first rest (suc i) w lt = rest.each i w (omega arith)

lawful_by : (d : Data) (v : Variable) (vs : List Variable) (texts : Texts) (one : Result (List ℕ) Cause) (others : Result Texts Cause)
    → text_in d v ≡ one → ((more : Texts) → others ≡ Ok more → AreLawful vs more)
    → (one >>= λ text. others >>= λ more. Ok (text ∷ more)) ≡ Ok texts → AreLawful (v ∷ vs) texts
lawful_by d v vs texts (Ok text) (Ok more) is rest h =
    let same : text ∷ more ≡ texts = cc in
    rw (← same) (lawful_more v vs text more (text_in-lawful d v text is) (rest more refl))
lawful_by d v vs texts (Ok text) (Err e) is rest h = cc
lawful_by d v vs texts (Err e) others is rest h = cc

texts_in-lawful : (d : Data) (vs : List Variable) (texts : Texts) → texts_in d vs ≡ Ok texts → AreLawful vs texts
unfolding texts_in
texts_in-lawful d [] texts h =
    let same : [] ≡ texts = cc in
    rw (← same) (record { count = refl; each = λ i v lt. absurd (omega arith) })
texts_in-lawful d (v ∷ vs) texts h = lawful_by d v vs texts (text_in d v) (texts_in d vs) refl (texts_in-lawful d vs) h

at_each : (texts : Texts) → AreLawful all_variables texts → (v : Variable) → is_lawful v (get_or texts (place_of v) []) ≡ true
at_each texts h variables.ImplementationName = h.each 0 variables.OsName (lit< tt)
at_each texts h variables.ImplementationVersion = h.each 1 variables.OsName (lit< tt)
at_each texts h variables.OsName = h.each 2 variables.OsName (lit< tt)
at_each texts h variables.PlatformMachine = h.each 3 variables.OsName (lit< tt)
at_each texts h variables.PlatformPythonImplementation = h.each 4 variables.OsName (lit< tt)
at_each texts h variables.PlatformRelease = h.each 5 variables.OsName (lit< tt)
at_each texts h variables.PlatformSystem = h.each 6 variables.OsName (lit< tt)
at_each texts h variables.PlatformVersion = h.each 7 variables.OsName (lit< tt)
at_each texts h variables.PythonFullVersion = h.each 8 variables.OsName (lit< tt)
at_each texts h variables.PythonVersion = h.each 9 variables.OsName (lit< tt)
at_each texts h variables.SysPlatform = h.each 10 variables.OsName (lit< tt)

-- what is read of an object is an environment
pub texts_in-environment : (d : Data) (texts : Texts) → texts_in d all_variables ≡ Ok texts → IsEnvironment texts
texts_in-environment d texts h =
    let lawful : AreLawful all_variables texts = texts_in-lawful d all_variables texts h in
    record { count = lawful.count; lawful = at_each texts lawful }

environment_from : (found : Result Data Cause) (texts : Texts) → (found >>= λ d. texts_in d all_variables) ≡ Ok texts → IsEnvironment texts
environment_from (Ok d) texts h = texts_in-environment d texts h
environment_from (Err e) texts h = cc

-- what is read of a file is an environment
pub environment_of-environment : (bytes : List ℕ) (texts : Texts) → environment_of bytes ≡ Ok texts → IsEnvironment texts
unfolding environment_of
environment_of-environment bytes texts h = environment_from (object_of bytes) texts h

versioned_reads_by : (b : Bool) (v : Variable) (text : List ℕ) → list_all is_unescaped text ≡ b → is_versioned v ≡ true → is_lawful v text ≡ true → is_some (version_read text) ≡ true
versioned_reads_by true v text plain versioned h = rw (plain, versioned) at h
versioned_reads_by false v text plain versioned h = let e = rw plain at h in cc

-- a lawful text of a variable whose texts are versions reads as one
pub versioned_reads : (v : Variable) (text : List ℕ) → is_versioned v ≡ true → is_lawful v text ≡ true → is_some (version_read text) ≡ true
versioned_reads v text versioned h = versioned_reads_by (list_all is_unescaped text) v text refl versioned h

-- ---- the loop over the conditions

-- one piece more, with what stands between pieces
pub more_pieces : {X : Type 0} (f : X → List ℕ) (between front mark : List ℕ) (rest : List X) (i : ℕ) (w : X) → i < length rest
    → mark ≡ front ++ flat_map (λ x. between ++ f x) (take i rest)
    → (mark ++ between) ++ f (get_or rest i w) ≡ front ++ flat_map (λ x. between ++ f x) (take (i + 1) rest)
more_pieces f between front mark rest i w lt before =
    rw (take_more rest i w lt, ← flat_map_more (λ x. between ++ f x) front (take i rest) (get_or rest i w), ← before) (append_assoc mark between (f (get_or rest i w)))
