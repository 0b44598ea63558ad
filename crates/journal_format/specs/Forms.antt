-- JSON values of a wanted form (RFC 8259).
use Rattle.std.specs.Prelude.{ℕ, ◌==◌, ◌&&◌, Bool, false, List, [], ◌∷◌, length, Option, Some, None, is_some, option_and_then, ⊤, Result, Ok, Err, if◌then◌else◌}
use Rattle.std.specs.List.{list_all}
use Rattle.std.specs.Str.{is_utf8}
use Rattle.serde_json.specs.Data.{Data, Items, no_items, item, Members}
use Rattle.serde_json.specs.Events.{members_len}
use Rattle.serde_json.specs.Find.{as_array, as_null, as_number, as_object, as_str, as_u64, get}
use Rattle.serde_json.specs.Read.{read}
use Rattle.pylock.specs.declared.flaw.Flaw.{Flaw}
use Rattle.pylock.specs.declared.flaw.Flaw.TheVariants.{OtherForm}
use Rattle.pylock.specs.Flaws.{◌>>=◌, found}

-- what has to hold
abbrev pub check : Bool → Result ⊤ Flaw
check b = if b then Ok tt else Err OtherForm

-- the JSON value of the bytes, which have to be UTF-8
unfoldable pub json_of : List ℕ → Result Data Flaw
json_of bytes = if is_utf8 bytes then found (read bytes) else Err OtherForm

-- there are so many members
abbrev pub counts : ℕ → Option Members → Bool
counts n None = false
counts n (Some ms) = members_len ms == n

-- an object has each of these keys, which are distinct, and no more: it has as many members
abbrev pub has_keys : List (List ℕ) → Data → Bool
has_keys keys d = counts (length keys) (as_object d) && list_all (λ key. is_some (get key d)) keys

-- an object with exactly these keys
abbrev pub only_keys : List (List ℕ) → Data → Result ⊤ Flaw
only_keys keys d = check (has_keys keys d)

-- what a form makes of the value at a key
abbrev pub at : {A : Type 0} → List ℕ → (Data → Result A Flaw) → Data → Result A Flaw
at key form d = found (get key d) >>= form

-- a text
abbrev pub text_of : Data → Result (List ℕ) Flaw
text_of d = found (as_str d)

-- a number below 2 ^ 64, written with digits alone
abbrev pub number_of : Data → Result ℕ Flaw
number_of d = found (option_and_then as_u64 (as_number d))

-- null, or a value of a form
abbrev pub or_null : {A : Type 0} → (Data → Result A Flaw) → Data → Result (Option A) Flaw
or_null form d = if is_some (as_null d) then Ok None else (form d >>= λ x. Ok (Some x))

-- each of the items
unfoldable pub each : {A : Type 0} → (Data → Result A Flaw) → Items → Result (List A) Flaw
each form no_items = Ok []
each form (item d ds) = form d >>= λ x. each form ds >>= λ xs. Ok (x ∷ xs)

-- an array of values of a form
abbrev pub list_of : {A : Type 0} → (Data → Result A Flaw) → Data → Result (List A) Flaw
list_of form d = found (as_array d) >>= λ ds. each form ds

-- the items of an array of two
abbrev pub two_in : Items → Option (Data × Data)
two_in (item a (item b no_items)) = Some (a, b)
two_in _ = None

-- the items of an array of three
abbrev pub three_in : Items → Option (Data × Data × Data)
three_in (item a (item b (item c no_items))) = Some (a, b, c)
three_in _ = None

-- the items of an array of four
abbrev pub four_in : Items → Option (Data × Data × Data × Data)
four_in (item a (item b (item c (item d no_items)))) = Some (a, b, c, d)
four_in _ = None

abbrev pub pair_of : Data → Result (Data × Data) Flaw
pair_of d = found (as_array d) >>= λ ds. found (two_in ds)

abbrev pub triple_of : Data → Result (Data × Data × Data) Flaw
triple_of d = found (as_array d) >>= λ ds. found (three_in ds)

abbrev pub quadruple_of : Data → Result (Data × Data × Data × Data) Flaw
quadruple_of d = found (as_array d) >>= λ ds. found (four_in ds)
