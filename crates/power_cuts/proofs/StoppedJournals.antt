-- The journal in its place behind a save that was stopped.
use Rattle.std.proofs.Common.{◌≡◌, ◌⊎◌, ℕ, ◌-◌, true, List, ◌∷◌, ◌++◌, Contains, Option, Some, None, IfSome, Ok, length, take, refl, sym, ap, subst, ◌∙◌, inl, inr}
use Rattle.std.proofs.lemmas.Bool.{cases_Bool}
use Rattle.std.proofs.lemmas.List.Elements.{Contains-append_left, Contains-append_right}
use Rattle.std.proofs.lemmas.Slice.Eq.{bytes_eq-Decides}
use Rattle.std.specs.Str.{bytes_eq}
use Rattle.folder.specs.Held.{Files, Held}
use Rattle.folder.specs.Repairs.{IsMoveOf}
use Rattle.folder.specs.Saves.{IsUnderWay, NewFileParts, changed, names_of, with_all, without_all}
use Rattle.folder.proofs.RepairRuns.{moves_still}
use Rattle.inputs.specs.FileNames.{name_of}
use Rattle.inputs.specs.declared.input_files.InputFile.TheVariants.{Journal}
use Rattle.journal.specs.Changes.{HistoryParts}
use Rattle.journal.specs.Laws.{FilesStandForOneHistory}
use Rattle.journal.specs.Opens.{Opens}
use Rattle.journal.proofs.StepsJoined.{all-take}
use Rattle.files.specs.Places.{FileBytes, StandsFor, bytes_saved}
use Rattle.files.specs.Saving.{IsSaving, goings, writes}
use Rattle.files.specs.declared.saved_files.SavedFiles.{SavedFiles}
use Rattle.power_cuts.specs.Journals.{HasOldJournal, IsNoJournal, IsOldJournal, IsToldThere, IsWholeOrNone, IsWrittenBeside}
use Rattle.power_cuts.specs.OneHistory.{AreToldApart, texts_of}
use Rattle.power_cuts.specs.Stopped.{digested}
use Rattle.power_cuts.proofs.JournalWrites.{journal-only}
use Rattle.power_cuts.proofs.SameHistory.{history-within}
use Rattle.power_cuts.proofs.StoppedSaves.{not-both, within-all}
use Rattle.power_cuts.proofs.Writes.{WritesOnly, removed-or_not, written-or_not}

-- ---- where a file in its place comes from

-- what stands in a place stood there before, or beside it; or it is what is saved, or what stood beside it at the stop
abbrev pub ComesFrom : List ℕ → List ℕ → Held → Held → Held → Type 0
ComesFrom name bytes old left now =
    (now.placed name ≡ old.placed name) ⊎ ((now.placed name ≡ old.beside name) ⊎ ((now.placed name ≡ Some bytes) ⊎ (now.placed name ≡ left.beside name)))

module _ (name bytes : List ℕ) (old left now : Held) (is : List ℕ) (there : now.placed name ≡ Some is) (moves : IsMoveOf left now) where
  not-none : now.placed name ≡ None → ⊥
  not-none none = not-both (now.placed name) is none there

  from-staged : left.placed ≡ old.placed → ComesFrom name bytes old left now
  from-staged same = elim (moves name).0 [
    | inl stays ↦ inl (stays ∙ ap (λ (f : Files). f name) same)
    | inr more ↦ elim more [
      | inl taken ↦ inr (inr (inr taken))
      | inr none ↦ absurd (not-none none)
    ]
  ]

  from-changed : (files : List NewFileParts) (going : List (List ℕ)) (n : ℕ) → WritesOnly name bytes files → left ≡ changed files going n old → ComesFrom name bytes old left now
  from-changed files going n only so = elim (moves name).0 [
    | inl stays ↦
        let placed = stays ∙ ap (λ (h : Held). h.placed name) so in
        elim (written-or_not name bytes (take (n - length going) files) (without_all (take n going) old.placed) (all-take (λ w. bytes_eq w.name name ≡ true → w.bytes ≡ bytes) (n - length going) files only)) [
          | inr new ↦ inr (inr (inl (placed ∙ new)))
          | inl same ↦ elim (removed-or_not (take n going) old.placed name) [
            | inl none ↦ absurd (not-none (placed ∙ same ∙ none))
            | inr kept ↦ inl (placed ∙ same ∙ kept)
          ]
        ]
    | inr more ↦ elim more [
      | inl taken ↦
          let beside = taken ∙ ap (λ (h : Held). h.beside name) so in
          elim (removed-or_not (names_of (take (n - length going) files)) (with_all files old.beside) name) [
            | inl none ↦ absurd (not-none (beside ∙ none))
            | inr kept ↦ elim (written-or_not name bytes files old.beside only) [
              | inl same ↦ inr (inl (beside ∙ kept ∙ same))
              | inr new ↦ inr (inr (inl (beside ∙ kept ∙ new)))
            ]
          ]
      | inr none ↦ absurd (not-none none)
    ]
  ]

  comes-from : (files : List NewFileParts) (going : List (List ℕ)) → WritesOnly name bytes files → IsUnderWay files going old left → ComesFrom name bytes old left now
  comes-from files going only (inl same) = from-staged same.placed
  comes-from files going only (inr some) = from-changed files going some.0 only some.2

-- ---- bytes that are there or not

pub same-or_not : (one other : Option (List ℕ)) → (one ≡ other) ⊎ (one ≡ other → ⊥)
same-or_not None None = inl refl
same-or_not None (Some y) = inr (λ same. not-both None y refl same)
same-or_not (Some x) None = inr (λ same. not-both (Some x) x same refl)
same-or_not (Some x) (Some y) = elim (cases_Bool (bytes_eq x y)) [
  | inl same ↦ inl (ap (λ (b : List ℕ). Some b) ((bytes_eq-Decides x y).0 same))
  | inr other ↦ inr (λ same. let is : x ≡ y = cc in let equal = (bytes_eq-Decides x y).1 is in absurd (cc (equal, other)))
]

one-some : (found : Option (List ℕ)) (x y : List ℕ) → found ≡ Some x → found ≡ Some y → x ≡ y
one-some found x y p q = let same : Some x ≡ Some y = sym p ∙ q in cc

some-none : (found : Option (List ℕ)) (x : List ℕ) → found ≡ Some x → IfSome found IsNoJournal → IsNoJournal x
some-none None x is none = absurd (cc is)
some-none (Some y) x is none = subst IsNoJournal (one-some (Some y) y x refl is) none

-- ---- what the files stand for

-- where files stand for a history, no bytes stand in the journal's place that are none
not-no_journal : (now : Held) (history : HistoryParts) (stands : StandsFor now history) (found : Option (List ℕ)) → now.placed (name_of Journal) ≡ found → IfSome found IsNoJournal → ⊥
not-no_journal now history stands found taken none =
    some-none found stands.files.journal (sym taken ∙ stands.places.journal) none stands.files.requirements stands.files.locks history stands.opens

module _ (law : FilesStandForOneHistory) (now : Held) (history : HistoryParts) (stands : StandsFor now history) where
  -- files that open with the journal of those that stand open as the same history
  told-within : (all : List (List ℕ)) (files : FileBytes) (other : HistoryParts) → ((text : List ℕ) → Contains (digested files) text → Contains all text) → ((text : List ℕ) → Contains (digested stands.files) text → Contains all text) → AreToldApart all
      → files.journal ≡ stands.files.journal → Opens files.requirements files.locks files.journal (Ok other) → history ≡ other
  told-within all files other within now_within apart same opens =
      history-within law all stands.files.requirements files.requirements stands.files.locks files.locks stands.files.journal history other apart (within-all all stands.files now_within) (within-all all files within)
      stands.opens (subst (λ (j : List ℕ). Opens files.requirements files.locks j (Ok other)) same opens)

  told-by : (files : FileBytes) (other : HistoryParts) → AreToldApart (digested files ++ digested stands.files) → files.journal ≡ stands.files.journal → Opens files.requirements files.locks files.journal (Ok other) → history ≡ other
  told-by files other =
      told-within (digested files ++ digested stands.files) files other (λ text there. Contains-append_left (digested files) (digested stands.files) text there) (Contains-append_right (digested files) (digested stands.files))

  pub has-old : (old : Held) → IsOldJournal old now → HasOldJournal old now history stands
  has-old old stood = record {
    stood = stood;
    tells = λ requirements locks other apart. told-by (record { requirements = requirements; locks = locks; journal = stands.files.journal }) other apart refl;
  }

  -- it is the journal that stands in its place
  journal-is : (journal : List ℕ) → now.placed (name_of Journal) ≡ Some journal → journal ≡ stands.files.journal
  journal-is journal there = one-some (now.placed (name_of Journal)) journal stands.files.journal there stands.places.journal

  not-gone : now.placed (name_of Journal) ≡ None → ⊥
  not-gone none = not-both (now.placed (name_of Journal)) stands.files.journal none stands.places.journal

  whole-taken : (journal : List ℕ) (found : Option (List ℕ)) → now.placed (name_of Journal) ≡ found → IsWholeOrNone journal found → now.placed (name_of Journal) ≡ Some journal
  whole-taken journal found taken (inl is) = taken ∙ is
  whole-taken journal found taken (inr none) = absurd (not-no_journal now history stands found taken none)

  -- behind moves a journal of before stands in its place
  pub moved-old : (begin : Held) → IsMoveOf begin now → IsOldJournal begin now
  moved-old begin moves = elim (moves (name_of Journal)).0 [
    | inl same ↦ inl same
    | inr more ↦ elim more [
      | inl taken ↦ inr taken
      | inr none ↦ absurd (not-gone none)
    ]
  ]

  -- a save that began behind other moves
  module _ (files : SavedFiles) (next : HistoryParts) (begin old left : Held) (first : IsMoveOf begin old) (save : IsSaving files next old left) (moves : IsMoveOf left now) where
    -- what stood in the journal's place, or beside it, stood there before those moves
    from-place : now.placed (name_of Journal) ≡ old.placed (name_of Journal) → IsOldJournal begin now
    from-place is = elim (first (name_of Journal)).0 [
      | inl same ↦ inl (is ∙ same)
      | inr more ↦ elim more [
        | inl taken ↦ inr (is ∙ taken)
        | inr none ↦ absurd (not-gone (is ∙ none))
      ]
    ]

    from-beside : now.placed (name_of Journal) ≡ old.beside (name_of Journal) → IsOldJournal begin now
    from-beside is = elim (first (name_of Journal)).1 [
      | inl same ↦ inr (is ∙ same)
      | inr none ↦ absurd (not-gone (is ∙ none))
    ]

    -- what was taken from beside is the journal that is saved, where that was written there
    new-taken : now.placed (name_of Journal) ≡ left.beside (name_of Journal) → (now.placed (name_of Journal) ≡ begin.beside (name_of Journal) → ⊥) → IsWrittenBeside save.form.journal begin left → now.placed (name_of Journal) ≡ Some save.form.journal
    new-taken taken other (inl same) = absurd (other (taken ∙ same))
    new-taken taken other (inr whole) = whole-taken save.form.journal (left.beside (name_of Journal)) taken whole

    -- the journal stood in its place when the save began, or it is one of before, or the one that is saved
    which-journal : (now.placed (name_of Journal) ≡ old.placed (name_of Journal)) ⊎ (IsOldJournal begin now ⊎ (IsWrittenBeside save.form.journal begin left → now.placed (name_of Journal) ≡ Some save.form.journal))
    which-journal = elim (comes-from (name_of Journal) save.form.journal old left now stands.files.journal stands.places.journal moves (writes files save.form) (goings files save.form) (journal-only files save.form) save.so_far) [
      | inl placed ↦ inl placed
      | inr more ↦ elim more [
        | inl beside ↦ inr (inl (from-beside beside))
        | inr new ↦ elim new [
          | inl is ↦ inr (inr (λ written. is))
          | inr taken ↦ elim (same-or_not (now.placed (name_of Journal)) (begin.beside (name_of Journal))) [
            | inl same ↦ inr (inl (inr same))
            | inr other ↦ inr (inr (new-taken taken other))
          ]
        ]
      ]
    ]

    abbrev form : FileBytes
    form = bytes_saved save.form

    pub old-or-next : HasOldJournal begin now history stands ⊎ (AreToldApart (digested (bytes_saved save.form) ++ digested stands.files) → IsWrittenBeside save.form.journal begin left → history ≡ next)
    old-or-next = elim which-journal [
      | inl placed ↦ inl (has-old begin (from-place placed))
      | inr more ↦ elim more [
        | inl stood ↦ inl (has-old begin stood)
        | inr new ↦ inr (λ apart written. told-by form next apart (journal-is save.form.journal (new written)) save.opens.opens)
      ]
    ]

    -- with some text in the place of the requirements file, the files that were read stood for a history
    module _ (before : HistoryParts) (there : old.placed (name_of Journal) ≡ Some files.journal) where
      abbrev read : List ℕ → FileBytes
      read text = record { requirements = text; locks = files.locks.entries; journal = files.journal }

      abbrev all : List ℕ → List (List ℕ)
      all text = digested (read text) ++ digested form ++ digested stands.files

      now-there : (text some : List ℕ) → Contains (digested stands.files) some → Contains (all text) some
      now-there text = Contains-append_right (digested (read text) ++ digested form) (digested stands.files)

      read-there : (text some : List ℕ) → Contains (digested (read text)) some → Contains (all text) some
      read-there text some is = Contains-append_left (digested (read text) ++ digested form) (digested stands.files) some (Contains-append_left (digested (read text)) (digested form) some is)

      form-there : (text some : List ℕ) → Contains (digested form) some → Contains (all text) some
      form-there text some is = Contains-append_left (digested (read text) ++ digested form) (digested stands.files) some (Contains-append_right (digested (read text)) (digested form) some is)

      pub before-or-next : HasOldJournal begin now history stands
          ⊎ ((text : List ℕ) → Opens text files.locks.entries files.journal (Ok before)
          → AreToldApart (text ∷ texts_of files.locks.entries ++ digested (bytes_saved save.form) ++ digested stands.files) → IsWrittenBeside save.form.journal begin left → (history ≡ before) ⊎ (history ≡ next))
      before-or-next = elim which-journal [
        | inl placed ↦ inr (λ text stood apart written. inl (told-within (all text) (read text) before (read-there text) (now-there text) apart (journal-is files.journal (placed ∙ there)) stood))
        | inr more ↦ elim more [
          | inl is_old ↦ inl (has-old begin is_old)
          | inr new ↦ inr (λ text stood apart written. inr (told-within (all text) form next (form-there text) (now-there text) apart (journal-is save.form.journal (new written)) save.opens.opens))
        ]
      ]

-- ---- the laws

pub old-journal-or-next : FilesStandForOneHistory → (files : SavedFiles) (next after : HistoryParts) (old left now : Held) (save : IsSaving files next old left) (stands : StandsFor now after) → IsMoveOf left now
    → HasOldJournal old now after stands ⊎ (AreToldApart (digested (bytes_saved save.form) ++ digested stands.files) → IsWrittenBeside save.form.journal old left → after ≡ next)
old-journal-or-next law files next after old left now save stands moves = old-or-next law now after stands files next old old left (moves_still old old refl) save moves

-- where no journal stood beside its place, a journal of before stood in it
from-place_alone : (old now : Held) (history : HistoryParts) (stands : StandsFor now history) → IfSome (old.beside (name_of Journal)) IsNoJournal → IsOldJournal old now → now.placed (name_of Journal) ≡ old.placed (name_of Journal)
from-place_alone old now history stands alone (inl placed) = placed
from-place_alone old now history stands alone (inr beside) = absurd (not-no_journal now history stands (old.beside (name_of Journal)) beside alone)

pub tells-its_history : (old now : Held) (before history : HistoryParts) (told : IsToldThere before old) (stands : StandsFor now history) → HasOldJournal old now history stands → AreToldApart (digested told.files ++ digested stands.files) → history ≡ before
tells-its_history old now before history told stands has apart =
    let placed = from-place_alone old now history stands told.alone has.stood in
    let same : told.files.journal ≡ stands.files.journal = one-some (now.placed (name_of Journal)) told.files.journal stands.files.journal (placed ∙ told.placed) stands.places.journal in
    has.tells told.files.requirements told.files.locks before apart (subst (λ (j : List ℕ). Opens told.files.requirements told.files.locks j (Ok before)) same told.opens)

pub none-stood : (old now : Held) (history : HistoryParts) (stands : StandsFor now history) → IfSome (old.placed (name_of Journal)) IsNoJournal → IfSome (old.beside (name_of Journal)) IsNoJournal → HasOldJournal old now history stands → ⊥
none-stood old now history stands no_place no_beside has = not-no_journal now history stands (old.placed (name_of Journal)) (from-place_alone old now history stands no_beside has.stood) no_place
