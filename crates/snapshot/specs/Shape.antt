-- JSON values of a wanted shape. A value of another shape is named by a JSON Pointer (RFC 6901).
use Rattle.std.specs.Prelude.{◌≡◌, ◌⊎◌, ℕ, suc, List, [], ◌∷◌, ◌++◌, decimal, Option, Some, None, option_and_then, option_map, ⊤, Result, Ok, Err}
use Rattle.serde_json.specs.Data.{Data, null, boolean, number, string, array, object, Items, no_items, item}
use Rattle.serde_json.specs.Find.{get, as_object, as_str}
use Rattle.snapshot.specs.declared.fault.Fault.{Fault}
use Rattle.snapshot.specs.declared.fault.Fault.TheVariants.{NotJson, Shape, DuplicatePackage, OutOfMemory}

infixl 10 ◌>>=◌
-- the next step, unless this one has a fault
abbrev pub ◌>>=◌ : {A B E : Type 0} → Result A E → (A → Result B E) → Result B E
(Ok x) >>= f = f x
(Err e) >>= f = Err e

-- what is there, or a fault at the path
abbrev pub found_at : {A : Type 0} → List ℕ → Option A → Result A Fault
found_at path (Some x) = Ok x
found_at path None = Err (Shape path)

-- a fault of a value that stands at the path
abbrev pub fault_below : List ℕ → Fault → Fault
fault_below path NotJson = NotJson
fault_below path (Shape inner) = Shape (path ++ inner)
fault_below path (DuplicatePackage name) = DuplicatePackage name
fault_below path OutOfMemory = OutOfMemory

-- what is read of a value that stands at the path
abbrev pub below : {A : Type 0} → List ℕ → Result A Fault → Result A Fault
below path (Ok x) = Ok x
below path (Err e) = Err (fault_below path e)

-- the path of a key in an object, of keys without `~` and `/`
abbrev pub key_path : List ℕ → List ℕ
key_path key = 47 ∷ key

-- the path of a place in an array
abbrev pub place_path : ℕ → List ℕ
place_path place = 47 ∷ decimal place

-- an object
abbrev pub object_of : Data → Result ⊤ Fault
object_of d = found_at [] (option_map (λ _. tt) (as_object d))

-- a text
abbrev pub text_of : Data → Result (List ℕ) Fault
text_of d = found_at [] (as_str d)

-- what a form makes of what was found at a key
abbrev pub at_key : {A : Type 0} → (Option Data → Option A) → List ℕ → Option Data → Result A Fault
at_key form key found = found_at (key_path key) (form found)

-- what a form makes of the value of a key, or of its absence
abbrev pub field : {A : Type 0} → (Option Data → Option A) → List ℕ → Data → Result A Fault
field form key d = at_key form key (get key d)

-- a value that has to be there
abbrev pub required : {A : Type 0} → (Data → Option A) → Option Data → Option A
required form found = option_and_then form found

-- a value that may be absent
abbrev pub or_absent : {A : Type 0} → A → (Data → Option A) → Option Data → Option A
or_absent default form None = Some default
or_absent default form (Some d) = form d

-- a value that may be null
abbrev pub or_null : {A : Type 0} → A → (Data → Option A) → Data → Option A
or_null default form null = Some default
or_null default form (boolean b) = form (boolean b)
or_null default form (number n) = form (number n)
or_null default form (string s) = form (string s)
or_null default form (array ds) = form (array ds)
or_null default form (object ms) = form (object ms)

-- a value that may be absent or null
abbrev pub optional : {A : Type 0} → A → (Data → Option A) → Option Data → Option A
optional default form = or_absent default (or_null default form)

-- each item of an array, the first of them at this place
unfoldable pub each_from : {A : Type 0} → (Data → Result A Fault) → ℕ → Items → Result (List A) Fault
each_from form place no_items = Ok []
each_from form place (item d ds) = do
  x ← below (place_path place) (form d)
  xs ← each_from form (suc place) ds
  Ok (x ∷ xs)

-- each item of the array at this key
abbrev pub each_at : {A : Type 0} → (Data → Result A Fault) → List ℕ → Items → Result (List A) Fault
each_at form key ds = below (key_path key) (each_from form 0 ds)

-- what a call answers, seen by view, is what is expected, unless it found no memory
abbrev pub Gives : {X Y : Type 0} → (X → Y) → Result Y Fault → Result X Fault → Type 0
Gives view expected (Ok x) = expected ≡ Ok (view x)
Gives view expected (Err e) = (e ≡ OutOfMemory) ⊎ (expected ≡ Err e)
