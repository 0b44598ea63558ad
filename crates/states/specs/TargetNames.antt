-- Names of targets. All of it is reqlock's own rule.
use Rattle.std.specs.Prelude.{ℕ, ◌==◌, ◌&&◌, ◌||◌, Bool, true, List, [], ◌∷◌, ◌++◌, codes, length, nat_le}
use Rattle.std.specs.Char.{is_ascii_digit, is_ascii_lowercase}
use Rattle.std.specs.List.{list_all}

-- a byte of a name behind its first: a lower-case letter, a digit or a hyphen
abbrev pub is_target_byte : ℕ → Bool
is_target_byte b = is_ascii_lowercase b || is_ascii_digit b || (b == 45)

-- a name: empty, or a lower-case letter with at most 31 more bytes
abbrev pub is_target_name : List ℕ → Bool
is_target_name [] = true
is_target_name (b ∷ rest) = is_ascii_lowercase b && list_all is_target_byte rest && nat_le (length rest) 31

-- the name of the file that the lock of a target is written to (PEP 751, "File Name")
abbrev pub file_name : List ℕ → List ℕ
file_name [] = codes "pylock.toml"
file_name name = codes "pylock." ++ name ++ codes ".toml"
