-- Bytes that are no JSON.
use Rattle.std.proofs.Common.{◌≡◌, ℕ, Bool, true, false, List, None, Err, refl}
use Rattle.std.specs.Prelude.{IsUtf8}
use Rattle.std.specs.Str.{is_utf8}
use Rattle.std.proofs.lemmas.Str.{IsUtf8-from_is_utf8}
use Rattle.serde_json.specs.Read.{read}
use Rattle.snapshot.specs.Packages.{json_of}
use Rattle.snapshot.specs.declared.fault.Fault.TheVariants.{NotJson}

not_json_by : (b : Bool) (bytes : List ℕ) → is_utf8 bytes ≡ b → (IsUtf8 bytes → read bytes ≡ None) → json_of bytes ≡ Err NotJson
unfolding json_of
not_json_by true bytes is none = rw (is, none (IsUtf8-from_is_utf8 bytes is)) refl
not_json_by false bytes is none = rw is refl

-- bytes that aren't UTF-8, or of which nothing is read
pub not_json : (bytes : List ℕ) → (IsUtf8 bytes → read bytes ≡ None) → json_of bytes ≡ Err NotJson
not_json bytes none = not_json_by (is_utf8 bytes) bytes refl none
