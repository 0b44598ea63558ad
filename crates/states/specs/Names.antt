-- Lists of names, each name once.
use Rattle.std.specs.Prelude.{ℕ, List}
use Rattle.std.specs.BTreeSet.{insert_key}
use Rattle.std.specs.Cmp.Lexicographic.{slice_cmp}
use Rattle.std.specs.List.{fold}
use Rattle.std.specs.Ordering.{nat_cmp}

-- names with more of them, each once and in the order of their bytes
abbrev pub with_names : List (List ℕ) → List (List ℕ) → List (List ℕ)
with_names names more = fold (insert_key (slice_cmp nat_cmp)) names more
