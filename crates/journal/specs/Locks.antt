-- The lock files beside a journal. All of it is reqlock's own rule.
use Rattle.std.specs.Prelude.{ℕ, not, Bool, false, List, find, Option, Some, None, option_map, if◌then◌else◌}
use Rattle.std.specs.Cmp.Lexicographic.{slice_cmp}
use Rattle.std.specs.Map.{lookup}
use Rattle.std.specs.Option.{option_map_or}
use Rattle.std.specs.Ordering.{is_lt, nat_cmp}
use Rattle.std.specs.Str.{bytes_eq}
use Rattle.sha2.specs.Sha256.{sha256}
use Rattle.journal_format.specs.Lines.{has_target}
use Rattle.journal_format.specs.declared.header.Header.{Header}
use Rattle.journal_format.specs.declared.header.HeaderTarget.{HeaderTarget}

-- the bytes of lock files, each by the name of its target
abbrev pub LockTexts : Type 0
LockTexts = List (List ℕ × List ℕ)

-- the lock file of a target, where there is one
abbrev pub lock_at : LockTexts → List ℕ → Option (List ℕ)
lock_at locks name = lookup (bytes_eq name) locks

-- a target's lock file is there, and has its digest
abbrev pub is_kept : LockTexts → HeaderTarget → Bool
is_kept locks target = option_map_or (λ text. bytes_eq (sha256 text) target.lock) (lock_at locks target.name) false

-- the first target of a header without a lock file, or whose lock file has another digest
abbrev pub lost_lock : Header → LockTexts → Option (List ℕ)
lost_lock header locks = option_map (λ t. t.name) (find (λ t. not (is_kept locks t)) header.targets)

-- the first lock file of a target that the header doesn't have
abbrev pub stray_lock : Header → LockTexts → Option (List ℕ)
stray_lock header locks = option_map (λ p. p.0) (find (λ p. not (has_target header p.0)) locks)

-- the lesser of two names by their bytes, or the one that is there
abbrev pub lesser : Option (List ℕ) → Option (List ℕ) → Option (List ℕ)
lesser None other = other
lesser (Some name) None = Some name
lesser (Some name) (Some other) = if is_lt (slice_cmp nat_cmp other name) then Some other else Some name

-- the first target by its bytes that isn't both in the header and among the lock files, or whose lock file has another digest
abbrev pub odd_lock : Header → LockTexts → Option (List ℕ)
odd_lock header locks = lesser (lost_lock header locks) (stray_lock header locks)
