-- Spaces and tabs are ASCII.
use Rattle.std.proofs.Common.{◌≡◌, ℕ, ◌<◌, true, arith}
use Rattle.std.proofs.lemmas.Bool.Decides.{nat_tests}
use Rattle.lists.specs.Spaces.{is_space_or_tab}

pub is_space_or_tab-ascii : (b : ℕ) → is_space_or_tab b ≡ true → b < 128
is_space_or_tab-ascii b e = grind (arith, nat_tests)
