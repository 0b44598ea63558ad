-- Which files of a folder a save rewrites, and by what. All of it is reqlock's own rule.
use Rattle.std.specs.Prelude.{ℕ, ◌==◌, ◌||◌, Bool, true, false, List, [], ◌∷◌, ◌++◌, is_some, length, not}
use Rattle.std.specs.List.{flat_map}
use Rattle.std.specs.Map.{lookup}
use Rattle.std.specs.BTreeMap.{is_at}
use Rattle.std.specs.Cmp.Lexicographic.{slice_cmp}
use Rattle.std.specs.Option.{option_map_or}
use Rattle.std.specs.Ordering.{nat_cmp}
use Rattle.std.specs.Str.{bytes_eq}
use Rattle.journal.specs.declared.saved.Saved.{Saved}
use Rattle.files.specs.Beside.{one_where}
use Rattle.files.specs.RewriteParts.{RewriteParts}
use Rattle.inputs.specs.declared.input_files.InputFile.{InputFile}
use Rattle.inputs.specs.declared.input_files.InputFile.TheVariants.{Requirements, Lock, Journal}
use Rattle.files.specs.declared.saved_files.SavedFiles.{SavedFiles}

-- a file with the bytes that it is to hold, unless it holds them
abbrev pub rewriting : Bool → InputFile → List ℕ → List RewriteParts
rewriting true file bytes = []
rewriting false file bytes = record { file = file; bytes = bytes } ∷ []

-- whether the lock of a target was read, and holds these bytes
abbrev pub has_lock : SavedFiles → List ℕ → List ℕ → Bool
has_lock files name bytes = option_map_or (λ lock. bytes_eq lock bytes) (lookup (is_at (slice_cmp nat_cmp name)) files.locks.entries) false

-- whether the lock of a target was read, or none was, as before a first save
abbrev pub is_known : SavedFiles → List ℕ → Bool
is_known files name = length files.locks.entries == 0 || is_some (lookup (is_at (slice_cmp nat_cmp name)) files.locks.entries)

-- whether a lock isn't among those of known targets that are to hold other bytes, or among those of the others
abbrev pub is_left : SavedFiles → Bool → List ℕ → List ℕ → Bool
is_left files true name bytes = has_lock files name bytes || not (is_known files name)
is_left files false name bytes = is_known files name

-- the locks that are to hold other bytes, of known targets or of the others
abbrev pub lock_rewrites : SavedFiles → Bool → List (List ℕ × List ℕ) → List RewriteParts
lock_rewrites files are_known locks = flat_map (λ lock. rewriting (is_left files are_known lock.0 lock.1) (Lock lock.0) lock.1) locks

-- the files that a save rewrites, each that is to hold other bytes than were read: the requirements file, the locks by name, and the journal; behind it the
-- locks of targets that come, so that no stop leaves such a lock beside a journal that doesn't name it
abbrev pub rewrites_of : SavedFiles → Saved → List RewriteParts
rewrites_of files saved =
    rewriting (bytes_eq files.requirements.items saved.requirements) Requirements saved.requirements
    ++ lock_rewrites files true saved.locks.entries
    ++ rewriting (bytes_eq files.journal saved.journal) Journal saved.journal
    ++ lock_rewrites files false saved.locks.entries

-- the locks that a save removes: those that were read, of targets that the saved history hasn't
abbrev pub gone_among : Saved → List (List ℕ × List ℕ) → List InputFile
gone_among saved locks = flat_map (λ lock. one_where (not (is_some (lookup (is_at (slice_cmp nat_cmp lock.0)) saved.locks.entries))) (Lock lock.0)) locks

abbrev pub going_of : SavedFiles → Saved → List InputFile
going_of files saved = gone_among saved files.locks.entries
