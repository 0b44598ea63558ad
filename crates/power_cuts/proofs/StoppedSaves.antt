-- What a stopped save leads to, behind the repair of the next call.
use Rattle.std.proofs.Common.{◌≡◌, ◌⊎◌, ℕ, ◌-◌, true, false, List, [], ◌++◌, Contains, Option, Some, None, Ok, length, map, take, refl, sym, ap, subst, ◌∙◌, inl, inr}
use Rattle.std.proofs.lemmas.Bool.{cases_Bool}
use Rattle.std.proofs.lemmas.List.Elements.{Contains-append_left, Contains-append_right}
use Rattle.std.proofs.lemmas.Slice.Eq.{bytes_eq-Decides}
use Rattle.std.specs.Str.{bytes_eq}
use Rattle.lists.proofs.Members.{Contains-here, Contains-there}
use Rattle.folder.specs.Held.{Held, is_among}
use Rattle.folder.specs.Saves.{NewFileParts, changed, names_of, with_all, without_all}
use Rattle.inputs.specs.FileNames.{name_of}
use Rattle.inputs.specs.declared.input_files.InputFile.{InputFile}
use Rattle.inputs.specs.declared.input_files.InputFile.TheVariants.{Journal}
use Rattle.journal.specs.Changes.{HistoryParts}
use Rattle.journal.specs.Laws.{FilesStandForOneHistory}
use Rattle.journal.specs.Opens.{BeginsWith, Opens}
use Rattle.journal.specs.declared.saved.Saved.{Saved}
use Rattle.journal_format.specs.Lines.{cut_line}
use Rattle.journal_format.specs.declared.header.Header.{Header}
use Rattle.journal.proofs.StepsJoined.{all-take}
use Rattle.files.specs.NamedRewrites.{new_file}
use Rattle.files.specs.Places.{FileBytes, StandsFor, bytes_read, bytes_saved}
use Rattle.files.specs.Repair.{IsRepairOf}
use Rattle.files.specs.RewriteParts.{RewriteParts}
use Rattle.files.specs.Rewrites.{going_of, rewrites_of}
use Rattle.files.specs.declared.saved_files.SavedFiles.{SavedFiles}
use Rattle.files.proofs.OtherLocks.{has-header}
use Rattle.power_cuts.specs.OneHistory.{AreToldApart, texts_of}
use Rattle.power_cuts.specs.Stopped.{IsStopped, digested}
use Rattle.power_cuts.proofs.JournalWrites.{journal-among, journal-only}
use Rattle.power_cuts.proofs.NothingWritten.{nothing-goes, nothing-written}
use Rattle.power_cuts.proofs.Places.{stands-once, still-stands}
use Rattle.power_cuts.proofs.SameHistory.{AreWithin, digests-tell, history-within, same-files}
use Rattle.power_cuts.proofs.SavedLocks.{saved-rise}
use Rattle.power_cuts.proofs.Writes.{WritesOnly, removed-or_not, take-none, written-among, written-or_not}

-- ---- the journal that a stop leaves

-- one of these, or nothing
abbrev IsOneOf : Option (List ℕ) → List ℕ → List ℕ → Type 0
IsOneOf found one other = (found ≡ None) ⊎ ((found ≡ Some one) ⊎ (found ≡ Some other))

pub not-both : {X : Type 0} (found : Option X) (x : X) → found ≡ None → found ≡ Some x → ⊥
not-both found x none is = let e : None ≡ Some x = sym none ∙ is in cc

which-one : (found : Option (List ℕ)) (one other is : List ℕ) → IsOneOf found one other → found ≡ Some is → (is ≡ one) ⊎ (is ≡ other)
which-one found one other is (inl none) there = absurd (not-both found is none there)
which-one found one other is (inr (inl first)) there = inl (let e : Some is ≡ Some one = sym there ∙ first in cc)
which-one found one other is (inr (inr second)) there = inr (let e : Some is ≡ Some other = sym there ∙ second in cc)

module _ (writes : List NewFileParts) (going : List (List ℕ)) (n : ℕ) (old : Held) (name one other : List ℕ) (only : WritesOnly name other writes) where
  -- in a place stand the old bytes or the new ones, or nothing
  one-placed : old.placed name ≡ Some one → IsOneOf ((changed writes going n old).placed name) one other
  one-placed stood =
      let done = take (n - length going) writes in
      elim (written-or_not name other done (without_all (take n going) old.placed) (all-take (λ w. bytes_eq w.name name ≡ true → w.bytes ≡ other) (n - length going) writes only)) [
        | inr is ↦ inr (inr is)
        | inl same ↦ elim (removed-or_not (take n going) old.placed name) [
          | inl none ↦ inl (same ∙ none)
          | inr kept ↦ inr (inl (same ∙ kept ∙ stood))
        ]
      ]

  -- beside it stand the new ones, or nothing
  one-beside : is_among (names_of writes) name ≡ true → IsOneOf ((changed writes going n old).beside name) one other
  one-beside among =
      elim (removed-or_not (names_of (take (n - length going) writes)) (with_all writes old.beside) name) [
        | inl none ↦ inl none
        | inr kept ↦ inr (inr (kept ∙ written-among name other writes old.beside only among))
      ]

one-repaired : (left now : Held) (name one other : List ℕ) → IsRepairOf ⊥ left now → IsOneOf (left.placed name) one other → IsOneOf (left.beside name) one other → IsOneOf (now.placed name) one other
one-repaired left now name one other repaired placed beside = elim (repaired.moves name).0 [
  | inl same ↦ subst (λ (o : Option (List ℕ)). IsOneOf o one other) (sym same) placed
  | inr more ↦ elim more [
    | inl taken ↦ subst (λ (o : Option (List ℕ)). IsOneOf o one other) (sym taken) beside
    | inr none ↦ inl none
  ]
]

-- where nothing is written and nothing goes, all places stay
places-stay : (writes : List NewFileParts) (going : List (List ℕ)) (n : ℕ) (old : Held) → writes ≡ [] → going ≡ [] → (changed writes going n old).placed ≡ old.placed
places-stay writes going n old none_written none_gone i =
    with_all (take-none writes (n - length going) none_written i) (without_all (take-none going n none_gone i) old.placed)

-- nothing empty begins with a header
none-begins : (begin : Header × List ℕ) → BeginsWith [] begin → ⊥
none-begins begin begins = not-both (cut_line []) (begins.line, begin.1) refl begins.cut

-- ---- files that are told apart

-- all of these files are among those
pub within-all : (all : List (List ℕ)) (files : FileBytes) → ((text : List ℕ) → Contains (digested files) text → Contains all text) → AreWithin all files.requirements files.locks
within-all all files within = record {
  first = within files.requirements (Contains-here files.requirements (texts_of files.locks));
  others = λ text there. within text (Contains-there files.requirements (texts_of files.locks) text there);
}

-- ---- what the files stand for

module _ (law : FilesStandForOneHistory) (history next after : HistoryParts) (left now : Held) (stopped : IsStopped history next left) (stands : StandsFor now after) (repaired : IsRepairOf ⊥ left now)
    (apart : AreToldApart (digested stopped.stood.files ++ digested (bytes_saved stopped.save.form) ++ digested stands.files)) where
  abbrev before : FileBytes
  before = stopped.stood.files

  abbrev files : SavedFiles
  files = stopped.files

  abbrev saved : Saved
  saved = stopped.save.form

  abbrev writes : List NewFileParts
  writes = map new_file (rewrites_of files saved)

  abbrev going : List (List ℕ)
  going = map name_of (going_of files saved)

  abbrev all : List (List ℕ)
  all = digested before ++ digested (bytes_saved saved) ++ digested stands.files

  old-within : AreWithin all before.requirements before.locks
  old-within = within-all all before (λ text there.
      Contains-append_left (digested before ++ digested (bytes_saved saved)) (digested stands.files) text (Contains-append_left (digested before) (digested (bytes_saved saved)) text there))

  new-within : AreWithin all saved.requirements saved.locks.entries
  new-within = within-all all (bytes_saved saved) (λ text there.
      Contains-append_left (digested before ++ digested (bytes_saved saved)) (digested stands.files) text (Contains-append_right (digested before) (digested (bytes_saved saved)) text there))

  now-within : AreWithin all stands.files.requirements stands.files.locks
  now-within = within-all all stands.files (Contains-append_right (digested before ++ digested (bytes_saved saved)) (digested stands.files))

  -- where all places are as they were, the history is the old one
  as-before : left.placed ≡ stopped.old.placed → after ≡ history
  as-before same =
      let stood : StandsFor left history = still-stands stopped.old left history same stopped.stood in
      stands-once law now after history stands (still-stands left now history (repaired.stays (λ never. never) history stood) stood)

  -- where the journal that was read stays as it was, so do all files
  same-journal : bytes_eq files.journal saved.journal ≡ true → bytes_read files ≡ before → (n : ℕ) → left ≡ changed writes going n stopped.old → after ≡ history
  same-journal same read n is =
      let journals : files.journal ≡ saved.journal = (bytes_eq-Decides files.journal saved.journal).0 same in
      let stood : Opens files.requirements.items files.locks.entries files.journal (Ok history) = subst (λ (f : FileBytes). Opens f.requirements f.locks f.journal (Ok history)) (sym read) stopped.stood.opens in
      let opens : Opens files.requirements.items files.locks.entries saved.journal (Ok history) = subst (λ (j : List ℕ). Opens files.requirements.items files.locks.entries j (Ok history)) journals stood in
      let within : AreWithin all files.requirements.items files.locks.entries = subst (λ (f : FileBytes). AreWithin all f.requirements f.locks) (sym read) old-within in
      let b = has-header saved.requirements saved.locks.entries saved.journal next stopped.save.opens.opens in
      let are =
      same-files files.requirements.items saved.requirements files.locks.entries saved.locks.entries saved.journal history next
      (apart files.requirements.items saved.requirements within.first new-within.first)
      (digests-tell all files.requirements.items saved.requirements files.locks.entries saved.locks.entries apart within new-within)
      (has-header files.requirements.items files.locks.entries saved.journal history opens) b in
      let rise = saved-rise next saved stopped.save.is stopped.save.opens.opens in
      let none_written : writes ≡ [] = ap (λ (r : List RewriteParts). map new_file r) (nothing-written files saved b.begin.0 are rise same) in
      let none_gone : going ≡ [] = ap (λ (f : List InputFile). map name_of f) (nothing-goes files saved b.begin.0 are) in
      as-before (ap (λ (h : Held). h.placed) is ∙ places-stay writes going n stopped.old none_written none_gone)

  -- no journal that was saved is empty
  some-journal : bytes_eq files.journal saved.journal ≡ true → files.journal ≡ [] → ⊥
  some-journal same none =
      let empty : saved.journal ≡ [] = sym ((bytes_eq-Decides files.journal saved.journal).0 same) ∙ none in
      let b = has-header saved.requirements saved.locks.entries saved.journal next stopped.save.opens.opens in
      none-begins b.begin (subst (λ (j : List ℕ). BeginsWith j b.begin) empty b.begins)

  -- else it is told by the journal, which is the old one or the new one
  other-journal : bytes_eq files.journal saved.journal ≡ false → (n : ℕ) → left ≡ changed writes going n stopped.old → (after ≡ history) ⊎ (after ≡ next)
  other-journal other n is =
      let name = name_of Journal in
      let placed : IsOneOf (left.placed name) before.journal saved.journal =
      subst (λ (h : Held). IsOneOf (h.placed name) before.journal saved.journal) (sym is) (one-placed writes going n stopped.old name before.journal saved.journal (journal-only files saved) stopped.stood.places.journal) in
      let beside : IsOneOf (left.beside name) before.journal saved.journal =
      subst (λ (h : Held). IsOneOf (h.beside name) before.journal saved.journal) (sym is) (one-beside writes going n stopped.old name before.journal saved.journal (journal-only files saved) (journal-among files saved other)) in
      elim (which-one (now.placed name) before.journal saved.journal stands.files.journal (one-repaired left now name before.journal saved.journal repaired placed beside) stands.places.journal) [
        | inl same ↦
            let opens : Opens stands.files.requirements stands.files.locks before.journal (Ok after) = subst (λ (j : List ℕ). Opens stands.files.requirements stands.files.locks j (Ok after)) same stands.opens in
            inl (history-within law all stands.files.requirements before.requirements stands.files.locks before.locks before.journal after history apart now-within old-within opens stopped.stood.opens)
        | inr same ↦
            let opens : Opens stands.files.requirements stands.files.locks saved.journal (Ok after) = subst (λ (j : List ℕ). Opens stands.files.requirements stands.files.locks j (Ok after)) same stands.opens in
            inr (history-within law all stands.files.requirements saved.requirements stands.files.locks saved.locks.entries saved.journal after next apart now-within new-within opens stopped.save.opens.opens)
      ]

  pub old-or-new : (after ≡ history) ⊎ (after ≡ next)
  old-or-new = elim stopped.save.so_far [
    | inl same ↦ inl (as-before same.placed)
    | inr some ↦ elim (cases_Bool (bytes_eq files.journal saved.journal)) [
      | inl same ↦ elim stopped.read [
        | inl read ↦ inl (same-journal same read some.0 some.2)
        | inr none ↦ absurd (some-journal same none)
      ]
      | inr other ↦ other-journal other some.0 some.2
    ]
  ]
