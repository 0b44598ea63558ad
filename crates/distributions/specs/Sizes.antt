-- Sizes of files.
use Rattle.std.specs.Prelude.{ℕ, ◌^◌, nat_lt, Bool}

-- a number of bytes that fits a signed number of 64 bits (reqlock's own rule)
abbrev pub is_size : ℕ → Bool
is_size n = nat_lt n (2 ^ 63)
