-- Worked values of the definitions.
use Rattle.std.specs.Prelude.{◌≡◌, ℕ, [], ◌∷◌, List, true, false, Some, codes, refl}
use Rattle.lists.specs.Rising.{rises}
use Rattle.journal_format.specs.Lines.{are_targets}
use Rattle.journal.specs.Locks.{lesser, odd_lock}
use Rattle.journal_format.specs.declared.header.Header.{Header}
use Rattle.journal_format.specs.declared.header.HeaderTarget.{HeaderTarget}
use Rattle.journal_format.specs.declared.header.JournalVersion.TheVariants.{Two}

-- a target of this name, in no environment
abbrev named : List ℕ → HeaderTarget
named name = record { name = name; environment = []; lock = [] }

-- a header with these targets
abbrev header_of : List HeaderTarget → Header
header_of targets = record { version = Two; cursor = 0; requirements = []; steps = 0; targets = targets }

-- names rise by their bytes, the empty one first; there is one at least
rise_row : are_targets (named [] ∷ named (codes "linux") ∷ named (codes "win") ∷ []) ≡ true
unfolding rises
rise_row = refl

twice_row : are_targets (named (codes "win") ∷ named (codes "win") ∷ []) ≡ false
unfolding rises
twice_row = refl

none_row : are_targets [] ≡ false
none_row = refl

-- the first target without its lock file is told
lost_row : odd_lock (header_of (named (codes "linux") ∷ named (codes "win") ∷ [])) [] ≡ Some (codes "linux")
lost_row = refl

-- a lock file of no target comes before a target without one, where its name is less
stray_row : odd_lock (header_of (named (codes "win") ∷ [])) ((codes "mac", []) ∷ []) ≡ Some (codes "mac")
stray_row = refl

lost_first_row : odd_lock (header_of (named (codes "linux") ∷ [])) ((codes "mac", []) ∷ []) ≡ Some (codes "linux")
lost_first_row = refl

lesser_row : lesser (Some (codes "b-2")) (Some (codes "b-10")) ≡ Some (codes "b-10")
lesser_row = refl
