-- What a state holds.
use Rattle.std.specs.Prelude.{ℕ, List, [], ◌∷◌}
use Rattle.states.specs.declared.target.Target.{Target}

-- the lines of the requirements file, each with its ending, and the targets
pub record StateParts : Type 0 where
  pub lines : List (List ℕ)
  pub targets : List Target

-- the digest of the index that locks were made from: that of the first target's lock
abbrev pub digest_of : List Target → List ℕ
digest_of [] = []
digest_of (target ∷ rest) = target.lock.snapshot
