-- What stands in the places of a folder.
use Rattle.std.proofs.Common.{◌≡◌, ℕ, List, Ok, subst}
use Rattle.folder.specs.Held.{Held}
use Rattle.journal.specs.Changes.{HistoryParts}
use Rattle.journal.specs.Laws.{FilesStandForOneHistory}
use Rattle.journal.specs.Opens.{Opens}
use Rattle.files.specs.Places.{StandsFor}
use Rattle.files.proofs.OneInPlace.{one-by_name, one-journal, one-requirements}
use Rattle.files.proofs.StandingFiles.{in_place_same}
use Rattle.power_cuts.proofs.SameHistory.{folder-history}

-- where the places are the same, files stand for the same history in them
pub still-stands : (old new : Held) (history : HistoryParts) → new.placed ≡ old.placed → StandsFor old history → StandsFor new history
still-stands old new history same stands = record { files = stands.files; places = in_place_same old new stands.files same stands.places; opens = stands.opens }

-- the files of a folder stand for one history at most
pub stands-once : FilesStandForOneHistory → (held : Held) (one another : HistoryParts) → StandsFor held one → StandsFor held another → one ≡ another
stands-once law held one another a b =
    let opens : Opens b.files.requirements a.files.locks b.files.journal (Ok one) =
    subst (λ (r : List ℕ). Opens r a.files.locks b.files.journal (Ok one)) (one-requirements held a.files b.files a.places b.places)
    (subst (λ (j : List ℕ). Opens a.files.requirements a.files.locks j (Ok one)) (one-journal held a.files b.files a.places b.places) a.opens) in
    folder-history law b.files.requirements b.files.journal a.files.locks b.files.locks one another (one-by_name held a.files b.files a.places b.places) opens b.opens
