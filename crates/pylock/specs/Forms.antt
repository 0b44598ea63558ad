-- TOML values of a wanted form.
use Rattle.std.specs.Prelude.{ℕ, not, Bool, List, [], ◌∷◌, filter, Option, Some, None, is_some, option_and_then, ℤ, pos, negsuc, Result, Ok, Err, if◌then◌else◌}
use Rattle.std.specs.Cmp.Lexicographic.{slice_cmp}
use Rattle.std.specs.List.{list_any}
use Rattle.std.specs.Option.{option_map_or}
use Rattle.std.specs.Ordering.{is_lt, nat_cmp}
use Rattle.std.specs.Str.{bytes_eq}
use Rattle.toml.specs.Data.{Data, Items, no_items, item, Members, no_members, member, as_array, as_integer, as_str, as_table, get_member}
use Rattle.pylock.specs.declared.flaw.Flaw.{Flaw}
use Rattle.pylock.specs.Flaws.{◌>>=◌, found}

-- the keys of a table
abbrev pub keys_of : Members → List (List ℕ)
keys_of no_members = []
keys_of (member key d ms) = key ∷ keys_of ms

-- the key is one of the known
abbrev pub is_known : List (List ℕ) → List ℕ → Bool
is_known known key = list_any (bytes_eq key) known

-- the lesser of two texts, by their bytes
abbrev pub lesser : List ℕ → List ℕ → List ℕ
lesser t u = if is_lt (slice_cmp nat_cmp u t) then u else t

-- the least of texts
abbrev pub least : List (List ℕ) → Option (List ℕ)
least [] = None
least (t ∷ texts) = Some (option_map_or (lesser t) (least texts) t)

-- the least key that isn't one of the known
abbrev pub least_unknown : List (List ℕ) → Members → Option (List ℕ)
least_unknown known ms = least (filter (λ key. not (is_known known key)) (keys_of ms))

-- the known keys behind this one
unfoldable pub after : List ℕ → List (List ℕ) → Option (List (List ℕ))
after key [] = None
after key (k ∷ ks) = if bytes_eq k key then Some ks else after key ks

-- the first key that isn't known, which is `least_unknown` by the law `the_first_unknown_key_is_the_least`
unfoldable pub unknown_in : List (List ℕ) → Members → Option (List ℕ)
unknown_in known no_members = None
unknown_in known (member key d ms) = option_map_or (λ rest. unknown_in rest ms) (after key known) (Some key)

-- the members, where each key is known
abbrev pub all_known : List (List ℕ) → Members → Option Members
all_known known ms = if is_some (unknown_in known ms) then None else Some ms

-- a table of known keys alone
abbrev pub table_with : List (List ℕ) → Data → Result Members Flaw
table_with known d = found (option_and_then (all_known known) (as_table d))

-- a text
abbrev pub text_of : Data → Result (List ℕ) Flaw
text_of d = found (as_str d)

-- the text at a key
abbrev pub text_at : List ℕ → Members → Result (List ℕ) Flaw
text_at key ms = found (option_and_then as_str (get_member key ms))

-- a number that isn't negative
abbrev pub natural : ℤ → Option ℕ
natural (pos n) = Some n
natural (negsuc n) = None

-- the number at a key
abbrev pub size_at : List ℕ → Members → Result ℕ Flaw
size_at key ms = found (option_and_then natural (option_and_then as_integer (get_member key ms)))

-- what may be absent
abbrev pub optionally : {A : Type 0} → (Data → Result A Flaw) → Option Data → Result (Option A) Flaw
optionally form None = Ok None
optionally form (Some d) = form d >>= λ x. Ok (Some x)

-- each item of an array
unfoldable pub each : {A : Type 0} → (Data → Result A Flaw) → Items → Result (List A) Flaw
each form no_items = Ok []
each form (item d ds) = form d >>= λ x. each form ds >>= λ xs. Ok (x ∷ xs)

-- an array of one item at least
abbrev pub not_empty : Items → Option Items
not_empty no_items = None
not_empty (item d ds) = Some (item d ds)

-- the items of a list that is absent where it is empty
abbrev pub some_each : {A : Type 0} → (Data → Result A Flaw) → Option Data → Result (List A) Flaw
some_each form None = Ok []
some_each form (Some d) = found (option_and_then not_empty (as_array d)) >>= λ ds. each form ds
