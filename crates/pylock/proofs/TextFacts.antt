-- Bytes that are no TOML, and the text of a lock.
use Rattle.std.proofs.Common.{◌≡◌, ℕ, Bool, true, false, List, Some, None, Ok, Err, refl}
use Rattle.std.specs.Prelude.{IsUtf8}
use Rattle.std.specs.Str.{is_utf8}
use Rattle.std.proofs.lemmas.Str.{IsUtf8-from_is_utf8}
use Rattle.toml.specs.Data.{Members}
use Rattle.toml.specs.Parse.{parse_document}
use Rattle.pylock.specs.declared.fault.Fault.TheVariants.{NotToml}
use Rattle.pylock.specs.Locks.{LockParts}
use Rattle.pylock.specs.LockOfTable.{lock_in, lock_in_text, toml_of}

not_toml_by : (b : Bool) (bytes : List ℕ) → is_utf8 bytes ≡ b → (IsUtf8 bytes → parse_document bytes ≡ None) → toml_of bytes ≡ Err NotToml
unfolding toml_of
not_toml_by true bytes is none = rw (is, none (IsUtf8-from_is_utf8 bytes is)) refl
not_toml_by false bytes is none = rw is refl

-- bytes that aren't UTF-8, or of which nothing is read
pub not_toml : (bytes : List ℕ) → (IsUtf8 bytes → parse_document bytes ≡ None) → toml_of bytes ≡ Err NotToml
not_toml bytes none = not_toml_by (is_utf8 bytes) bytes refl none

-- a text is read as the lock of its table
pub text-back : (bytes : List ℕ) (ms : Members) (l : LockParts) → is_utf8 bytes ≡ true → parse_document bytes ≡ Some ms → lock_in ms ≡ Ok l → lock_in_text bytes ≡ Ok l
unfolding lock_in_text toml_of
text-back bytes ms l utf8 parsed read = rw (utf8, parsed) read
