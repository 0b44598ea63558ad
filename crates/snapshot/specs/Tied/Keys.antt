-- Keys of an object that are asked for at once.
-- Tied to `field` by the contract of the code's `values_at`; need not be read.
use Rattle.std.specs.Prelude.{ℕ, suc, Bool, true, not, ◌&&◌, List, [], ◌∷◌, Option, Some, None, option_map, is_some, bytes_eq, if◌then◌else◌}
use Rattle.std.specs.Option.{option_or}
use Rattle.serde_json.specs.Data.{Data, Members}
use Rattle.serde_json.specs.Find.{get_member}
use Rattle.serde_json.specs.View.{view}
use Rattle.serde_json.specs.declared.value.Value.{Value}

-- the place of a key among others
abbrev pub place_of : List ℕ → List (List ℕ) → Option ℕ
place_of key [] = None
place_of key (other ∷ others) = if bytes_eq other key then Some 0 else option_map suc (place_of key others)

-- whether no key stands twice
abbrev pub are_apart : List (List ℕ) → Bool
are_apart [] = true
are_apart (key ∷ keys) = not (is_some (place_of key keys)) && are_apart keys

-- the values at the keys: those that were found, else those of the members
abbrev pub values_in : List (Option Value) → List (List ℕ) → Members → List (Option Data)
values_in [] keys ms = []
values_in (found ∷ more) [] ms = []
values_in (found ∷ more) (key ∷ keys) ms = option_or (option_map view found) (get_member key ms) ∷ values_in more keys ms
