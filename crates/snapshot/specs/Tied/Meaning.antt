-- What a JSON value means that borrows its text, as the kit's `json` reads it.
-- Tied to `json_of` and `packages_of` by the contract of the code's `read_packages`; need not be read.
use Rattle.std.specs.Prelude.{◌≡◌, ℕ, ⊤, List, [], ◌∷◌, codes, length, Option, Some, Result, Ok}
use Rattle.std.specs.declared.alloc.Global.{Global}
use Rattle.json.specs.Json.{Json, items, value}
use Rattle.json.specs.Token.{Token}
use Rattle.json.specs.Value.{value_view, items_view}
use Rattle.json.specs.declared.value.Value.{Value}
use Rattle.serde_json.specs.Data.{Data, Items, no_items, unsigned}
use Rattle.serde_json.specs.Find.{as_array, get}
use Rattle.serde_json.specs.Read.{converted, number_of, of_json, of_items}
use Rattle.snapshot.specs.declared.fault.Fault.{Fault}
use Rattle.snapshot.specs.declared.package.ReadPackages.{ReadPackages}
use Rattle.snapshot.specs.Packages.{json_of, packages_in, packages_of}
use Rattle.snapshot.specs.Shape.{◌>>=◌, each_at, field, optional, text_of}

-- `serde_json` reads the value
abbrev pub IsData : Json → Type 0
IsData j = (d : Data) × (of_json j ≡ Some d)

-- it reads the items
abbrev pub AreData : List (Value Global) → Type 0
AreData vs = (ds : Items) × (of_items (items_view vs) ≡ Some ds)

-- a form makes x of the value
abbrev pub Means : {A : Type 0} → (Data → Result A Fault) → Json → A → Type 0
Means form j x = (d : Data) → of_json j ≡ Some d → form d ≡ Ok x

-- what an object has at a key
abbrev pub Has : List ℕ → Json → Data → Type 0
Has key j e = (d : Data) → of_json j ≡ Some d → get key d ≡ Some e

-- a form makes the items of an array of what an object has at a key
abbrev pub HasItems : (Option Data → Option Items) → List ℕ → Json → List (Value Global) → Type 0
HasItems form key j vs = (d : Data) → of_json j ≡ Some d → (ds : Items) × (of_items (items_view vs) ≡ Some ds) × (field form key d ≡ Ok ds)

-- a form makes each x of the value at its place
abbrev pub EachMeans : {A : Type 0} → (Data → Result A Fault) → List (Value Global) → List A → Type 0
EachMeans form [] [] = ⊤
EachMeans form [] (x ∷ xs) = ⊥
EachMeans form (v ∷ vs) [] = ⊥
EachMeans form (v ∷ vs) (x ∷ xs) = Means form (value_view v) x × EachMeans form vs xs

-- the same of values that `serde_json` reads
abbrev pub EachIs : {A : Type 0} → (Data → Result A Fault) → List Data → List A → Type 0
EachIs form [] [] = ⊤
EachIs form [] (x ∷ xs) = ⊥
EachIs form (d ∷ ds) [] = ⊥
EachIs form (d ∷ ds) (x ∷ xs) = (form d ≡ Ok x) × EachIs form ds xs

-- the texts at `requires_dist`
abbrev pub dependencies_of : Data → Result (List (List ℕ)) Fault
dependencies_of d = field (optional no_items as_array) (codes "requires_dist") d >>= λ ds. each_at text_of (codes "requires_dist") ds

-- the packages that bytes list
abbrev pub packages_in_bytes : List ℕ → Result ReadPackages Fault
packages_in_bytes bytes = json_of bytes >>= packages_of

-- ---- the tokens of an index

-- 1 is the first token
abbrev pub IsOne : List Token → List Token → Type 0
IsOne all rest = (format : List ℕ) × (number_of format ≡ Some (unsigned 1)) × (all ≡ Token.number format ∷ rest)

-- the first tokens are those before the first package
abbrev pub IsFront : List Token → List Token → Type 0
IsFront all rest = (format : List ℕ) × (number_of format ≡ Some (unsigned 1))
    × (all ≡ Token.begin_object ∷ Token.key (codes "snapshot") ∷ Token.number format ∷ Token.key (codes "packages") ∷ Token.begin_array ∷ rest)

-- the first tokens are the packages of a list, and its end
abbrev pub ArePackages : List Token → List Token → ReadPackages → Type 0
ArePackages all rest read = (ds : Items) × (converted of_items (items (value 125) (length all) all) ≡ Some (ds, rest)) × (packages_in ds ≡ Ok read)
