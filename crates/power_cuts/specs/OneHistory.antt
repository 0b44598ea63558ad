-- Which histories files can stand for that share a journal. All of it is reqlock's own rule.
use Rattle.std.specs.Prelude.{◌≡◌, ℕ, List, ◌∷◌, ◌++◌, map, Ok}
use Rattle.std.specs.List.{Contains}
use Rattle.sha2.specs.Sha256.{sha256}
use Rattle.journal.specs.Changes.{HistoryParts}
use Rattle.journal.specs.Locks.{LockTexts}
use Rattle.journal.specs.Opens.{Opens}
use Rattle.files.specs.JournalLocks.{AreOneByName}

-- no two of these files that differ have the same digest
abbrev pub AreToldApart : List (List ℕ) → Type 0
AreToldApart files = (a b : List ℕ) → Contains files a → Contains files b → sha256 a ≡ sha256 b → a ≡ b

-- the bytes of lock files
abbrev pub texts_of : LockTexts → List (List ℕ)
texts_of locks = map (λ lock. lock.1) locks

-- files that open beside one journal stand for one history, if no two of them that differ have the same digest
abbrev pub AJournalTellsOneHistory : Type 0
AJournalTellsOneHistory =
    (requirements others : List ℕ) (locks more : LockTexts) (journal : List ℕ) (one another : HistoryParts)
    → AreToldApart (requirements ∷ others ∷ texts_of locks ++ texts_of more)
    → Opens requirements locks journal (Ok one) → Opens others more journal (Ok another) → one ≡ another

-- files that open from one folder stand for one history, whichever lock files are read with them
abbrev pub AFolderStandsForOneHistory : Type 0
AFolderStandsForOneHistory =
    (requirements journal : List ℕ) (locks more : LockTexts) (one another : HistoryParts)
    → AreOneByName locks more
    → Opens requirements locks journal (Ok one) → Opens requirements more journal (Ok another) → one ≡ another
