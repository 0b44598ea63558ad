-- The words of a call. All of it is reqlock's own rule.
use Rattle.std.specs.Prelude.{ℕ, ◌==◌, ◌||◌, Bool, false, List, [], ◌∷◌, codes, if◌then◌else◌}
use Rattle.std.specs.List.{before_first}
use Rattle.std.specs.Str.{bytes_eq}
use Rattle.std.specs.declared.io.ErrorKind.{ErrorKind}
use Rattle.std.specs.declared.io.ErrorKind.TheVariants as kinds
use Rattle.shell.specs.declared.given_words.NoWords.{NoWords}
use Rattle.shell.specs.declared.given_words.NoWords.TheVariants.{BadVariable, BadWord, OutOfMemory}
use Rattle.reports.specs.declared.report.Status.{Status}
use Rattle.reports.specs.declared.report.Status.TheVariants as statuses

-- a word gives an option, as itself or with a value behind `=`
abbrev pub gives : List ℕ → List ℕ → Bool
gives option word = bytes_eq (before_first (λ b. b == 61) word) option

-- a word gives the option, and stands before the first `--`, behind which texts stand alone
abbrev pub has_option : List ℕ → List (List ℕ) → Bool
has_option option [] = false
has_option option (word ∷ words) = if bytes_eq word (codes "--") then false else (gives option word || has_option option words)

-- why there are no words, by the kind of the system's error
abbrev pub no_words_by : ErrorKind → NoWords
no_words_by kinds.OutOfMemory = OutOfMemory
no_words_by kind = BadWord

-- the status of a call without words
abbrev pub status_without : NoWords → Status
status_without BadWord = statuses.Usage
status_without (BadVariable name) = statuses.Usage
status_without OutOfMemory = statuses.Fault
