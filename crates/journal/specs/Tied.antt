-- What serves the proofs alone. Tied to `Opens` by the contracts of `Journal::read`, `Session::open` and `Session::save`; need not be read.
pub mod Neighbours
pub mod LocksWritten
use Rattle.std.specs.Prelude.{◌≡◌, ◌⊎◌, ◌≤◌, true, ℕ, List, Option, Some, None, IsSomeAnd, ⊤, Result, Ok, Err, drop, length}
use Rattle.std.specs.List.{AllByRecursion}
use Rattle.std.specs.Str.{is_utf8}
use Rattle.serde_json.specs.Data.{Data}
use Rattle.serde_json.specs.Read.{read}
use Rattle.serde_json.specs.Written.{compact_text}
use Rattle.changes.specs.Changes.{ChangeParts}
use Rattle.journal_format.specs.Written.{header_data, step_data}
use Rattle.journal_format.specs.declared.header.Header.{Header}
use Rattle.states.specs.declared.refusal.Refusal.TheVariants.{FilesDisagree}
use Rattle.states.specs.declared.refusal.SavedFile.TheVariants.{Lock}
use Rattle.journal.specs.Values.{Refusal, OutOfMemory}
use Rattle.journal.specs.Opens.{BeginsWith}
use Rattle.journal.specs.declared.journal.FirstLine.{FirstLine}

-- what the bytes of a journal begin with: this header, and the place behind its line; or no header
abbrev pub IsBegun : List ℕ → Option FirstLine → Type 0
IsBegun bytes (Some first) = (first.behind ≤ length bytes) × BeginsWith bytes (first.header, drop first.behind bytes)
IsBegun bytes None = (begin : Header × List ℕ) → BeginsWith bytes begin → ⊥

-- what a call answers that walks along what a relation asks for and keeps nothing: that there is such a value; or that there was
-- no memory; or the relation's refusal
abbrev pub Walks : {A : Type 0} → (Result A Refusal → Type 0) → Result ⊤ Refusal → Type 0
Walks {A} Is (Ok u) = (value : A) × Is (Ok value)
Walks Is (Err refusal) = (refusal ≡ OutOfMemory) ⊎ Is (Err refusal)

-- what a call answers that looks for an odd lock file: that there is none; or that there was no memory; or the odd one
abbrev pub IsClear : Option (List ℕ) → Result ⊤ Refusal → Type 0
IsClear odd (Ok u) = odd ≡ None
IsClear odd (Err refusal) = (refusal ≡ OutOfMemory) ⊎ IsSomeAnd odd (λ name. refusal ≡ FilesDisagree (Lock name))

-- the compact text of a JSON value is text, and is read as the value
pub record IsWritten (d : Data) : Type 0 where
  pub utf8 : is_utf8 (compact_text d) ≡ true
  pub reads : read (compact_text d) ≡ Some d

-- the lines of a header and of changes are
pub record AreWritten (header : Header) (changes : List ChangeParts) : Type 0 where
  pub header_line : IsWritten (header_data header)
  pub step_lines : AllByRecursion (λ c. IsWritten (step_data c)) changes
