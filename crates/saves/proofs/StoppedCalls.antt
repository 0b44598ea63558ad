-- A call that was stopped, and the repair of the next one.
use Rattle.std.proofs.Common.{Bool, refl, inl, inr}
use Rattle.calls.specs.AskedEdits.{IsHistoryFor, MayGiveWay}
use Rattle.command_line.specs.declared.invocation.AskedEdit.{AskedEdit}
use Rattle.command_line.specs.declared.invocation.AskedEdit.TheVariants.{Replace, Retarget, Typed}
use Rattle.command_line.specs.declared.invocation.NewLines.{NewLines}
use Rattle.command_line.specs.declared.invocation.NewLines.TheVariants.{File, Was, Line}
use Rattle.calls.specs.Replaces.{IsHandChanged, IsReplaced}
use Rattle.files.specs.Beside.{StandFor}
use Rattle.files.specs.Places.{StandsFor, bytes_read}
use Rattle.files.specs.declared.saved_files.SavedFiles.{SavedFiles}
use Rattle.files.proofs.FolderRuns.{repair_twice}
use Rattle.folder.proofs.RepairRuns.{moves_twice}
use Rattle.folder.specs.Held.{Held}
use Rattle.folder.specs.Repairs.{IsMoveOf}
use Rattle.inputs.specs.Handed.{Handed}
use Rattle.journal.specs.Changes.{HistoryParts}
use Rattle.journal.specs.Laws.{FilesStandForOneHistory}
use Rattle.power_cuts.specs.Stopped.{IsStopped}
use Rattle.power_cuts.specs.Journals.{HasOldJournal}
use Rattle.power_cuts.proofs.StoppedJournals.{before-or-next, has-old, moved-old, old-or-next}
use Rattle.power_cuts.proofs.StoppedSaves.{old-or-new}
use Rattle.saves.specs.StoppedCalls.{LeavesOldJournalOrNew, LeavesOldOrNew, LeavesOldOrNewByHand}

-- what leads from a history for which the files stand that were read
pub stopped-call : {A : Type 0} (law : FilesStandForOneHistory) (is_saved : A → Bool) (does : SavedFiles → HistoryParts → A → Type 0)
    → ((files : SavedFiles) (after : HistoryParts) (answer : A) → does files after answer → (before : HistoryParts) × StandFor files before) → LeavesOldOrNew is_saved does
stopped-call law is_saved does from old left now history stands (inl repaired) repair = inl (repair_twice ⊥ old left now repaired repair)
stopped-call law is_saved does from old left now history stands (inr saving) repair =
    let files = saving.0 in
    let after = saving.1 in
    let before = from files after saving.2.0 saving.2.2 in
    let stopped : IsStopped before.0 after left = record {
      old = saving.3.repaired;
      stood = record { files = bytes_read files; places = saving.3.stand; opens = before.1 };
      files = files;
      read = inl refl;
      save = saving.3.made;
    } in
    inr (record {
      files = files;
      before = before.0;
      after = after;
      stood = before.1;
      led = saving.2;
      form = saving.3.made.form;
      is = saving.3.made.is;
      which = λ apart. old-or-new law before.0 after history left now stopped stands repair apart;
    })

-- of an edit they do, where none was made by hand
stand-replaced : (handed : Handed) (lines : NewLines) (files : SavedFiles) (history : HistoryParts) → (IsHandChanged lines → ⊥) → IsReplaced handed lines files history → StandFor files history
stand-replaced handed (File path) files history none stand = stand
stand-replaced handed (Was path) files history none opens = absurd (none tt)
stand-replaced handed (Line name text) files history none stand = stand

pub stand-for : (handed : Handed) (asked : AskedEdit) (files : SavedFiles) (history : HistoryParts) → (MayGiveWay asked ⊥ → ⊥) → IsHistoryFor handed asked files history → StandFor files history
stand-for handed (Typed typed) files history none stand = stand
stand-for handed (Replace replacement) files history none stand = stand-replaced handed replacement.lines files history (λ by_hand. none (inr by_hand)) stand
stand-for handed (Retarget targets) files history none stand = stand

-- ---- where files may be moved though those in the places stand for a history

-- a call that has saved nothing leaves a journal of before
nothing-saved : FilesStandForOneHistory → (old left now : Held) (history : HistoryParts) (stands : StandsFor now history) → IsMoveOf old left → IsMoveOf left now → HasOldJournal old now history stands
nothing-saved law old left now history stands first moves = has-old law now history stands old (moved-old law now history stands old (moves_twice old left now first moves))

pub stopped-first : {A : Type 0} (law : FilesStandForOneHistory) (is_saved : A → Bool) (does : SavedFiles → HistoryParts → A → Type 0) → LeavesOldJournalOrNew is_saved does
stopped-first law is_saved does old left now history stands (inl repaired) moves = inl (nothing-saved law old left now history stands repaired moves)
stopped-first law is_saved does old left now history stands (inr saving) moves =
    let files = saving.0 in
    let after = saving.1 in
    let way = saving.3 in
    elim (old-or-next law now history stands files after old way.repaired left way.repair way.made moves) [
      | inl stood ↦ inl stood
      | inr which ↦ inr (record { files = files; after = after; led = saving.2; form = way.made.form; is = way.made.is; which = which })
    ]

-- what leads from a history
pub stopped-by_hand : {A : Type 0} (law : FilesStandForOneHistory) (is_saved : A → Bool) (IsFrom : SavedFiles → HistoryParts → Type 0) (does : SavedFiles → HistoryParts → A → Type 0)
    → ((files : SavedFiles) (after : HistoryParts) (answer : A) → does files after answer → (before : HistoryParts) × IsFrom files before) → LeavesOldOrNewByHand is_saved IsFrom does
stopped-by_hand law is_saved IsFrom does from old left now history stands (inl repaired) moves = inl (nothing-saved law old left now history stands repaired moves)
stopped-by_hand law is_saved IsFrom does from old left now history stands (inr saving) moves =
    let files = saving.0 in
    let after = saving.1 in
    let way = saving.3 in
    let before = from files after saving.2.0 saving.2.2 in
    elim (before-or-next law now history stands files after old way.repaired left way.repair way.made moves before.0 way.stand.journal) [
      | inl stood ↦ inl stood
      | inr which ↦ inr (record { files = files; before = before.0; after = after; from = before.1; led = saving.2; form = way.made.form; is = way.made.is; which = which })
    ]
