-- A text that is a name.
use Rattle.std.proofs.Common.{◌≡◌, ℕ, List, Option, Some, None, Ok, inl, inr}
use Rattle.std.proofs.lemmas.Bool.{cases_Bool}
use Rattle.std.specs.Prelude.{option_and_then}
use Rattle.serde_json.specs.Data.{Data}
use Rattle.serde_json.specs.Find.{as_str}
use Rattle.markers.specs.Faults.{one_line}
use Rattle.markers.specs.Names.{is_name, name_of}
use Rattle.snapshot.specs.Packages.{as_name, name_in}
use Rattle.snapshot.specs.Shape.{found_at, required}

text_named : (path text name : List ℕ) → one_line (name_of text) ≡ Ok name → found_at path (name_in text) ≡ Ok name
text_named path text name h = elim (cases_Bool (is_name text)) [
  | inl yes-name ↦ let g = (rw yes-name at h) in rw yes-name cc
  | inr no-name ↦ let g = (rw no-name at h) in absurd cc
]

value_named : (path : List ℕ) (o : Option (List ℕ)) (text name : List ℕ) → found_at path o ≡ Ok text → one_line (name_of text) ≡ Ok name
    → found_at path (option_and_then name_in o) ≡ Ok name
value_named path None text name h g = absurd cc
value_named path (Some t) text name h g = let same : t ≡ text = cc in rw same (text_named path text name g)

-- what was found at a key is a name, where a name is read of the text there
pub name_found : (path : List ℕ) (o : Option Data) (text name : List ℕ) → found_at path (required as_str o) ≡ Ok text → one_line (name_of text) ≡ Ok name
    → found_at path (required as_name o) ≡ Ok name
name_found path None text name h g = absurd cc
name_found path (Some d) text name h g = value_named path (as_str d) text name h g
