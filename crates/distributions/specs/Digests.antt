-- SHA-256 digests as texts (PEP 503, "Specification"; PEP 751, "packages.wheels.hashes").
use Rattle.std.specs.Prelude.{ℕ, ◌==◌, ◌&&◌, ◌||◌, nat_le, Bool, List, length, map, Option, Some, None, if◌then◌else◌}
use Rattle.std.specs.Char.{is_ascii_digit, to_ascii_lowercase}
use Rattle.std.specs.List.{list_all}

-- a hexadecimal digit, a letter in lower case
abbrev pub is_digest_byte : ℕ → Bool
is_digest_byte b = is_ascii_digit b || (nat_le 97 b && nat_le b 102)

-- a SHA-256 digest in hexadecimal digits, letters in lower case
abbrev pub is_digest : List ℕ → Bool
is_digest text = (length text == 64) && list_all is_digest_byte text

-- the digest that a text is, its letters put in lower case
abbrev pub digest_in : List ℕ → Option (List ℕ)
digest_in text = if is_digest (map to_ascii_lowercase text) then Some (map to_ascii_lowercase text) else None
