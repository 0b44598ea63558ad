-- What the versions of an edit are chosen from. All of it is reqlock's own rule.
use Rattle.std.specs.Prelude.{◌≡◌, ℕ, Bool, List}
use Rattle.inputs.specs.Handed.{Handed, IsIndexAt}
use Rattle.journal.specs.Values.{Pool}

-- the index at a path, where each locked version that is still needed may have to stay
abbrev pub IsPoolFor : Handed → List ℕ → Bool → Pool → Type 0
IsPoolFor handed index keeps_locked pool = IsIndexAt handed index pool.index × (pool.only_kept ≡ keeps_locked)
