-- What a stopped save leaves can be completed.
use Rattle.std.proofs.Common.{◌≡◌, ◌⊎◌, ◌∙◌, ◌-◌, ◌||◌, ℕ, zero, suc, Bool, true, false, List, [], ◌∷◌, Option, Some, None, ap, if◌then◌else◌, inl, inr, length, map, refl, subst, sym, take, true≢false}
use Rattle.std.proofs.lemmas.Bool.{cases_Bool}
use Rattle.std.proofs.lemmas.Slice.Eq.{bytes_eq-Decides}
use Rattle.std.specs.BTreeMap.{IsOrdered}
use Rattle.std.specs.Cmp.Lexicographic.{slice_cmp}
use Rattle.std.specs.List.{AllByRecursion}
use Rattle.std.specs.Ordering.{nat_cmp}
use Rattle.std.specs.Prelude.{◌&&◌, codes, not}
use Rattle.std.specs.Str.{bytes_eq}
use Rattle.states.specs.TargetNames.{file_name}
use Rattle.folder.proofs.Names.{not_among_first, with_all-miss, without_all-at}
use Rattle.folder.specs.Held.{Files, Held, is_among}
use Rattle.folder.specs.Saves.{AreApart, NewFileParts, changed, names_of, saved, with_all, without_all}
use Rattle.inputs.specs.FileNames.{name_of}
use Rattle.inputs.specs.declared.input_files.InputFile.{InputFile}
use Rattle.inputs.specs.declared.input_files.InputFile.TheVariants.{Requirements, Lock, Journal}
use Rattle.journal.specs.Changes.{HistoryParts}
use Rattle.journal.specs.declared.saved.Saved.{Saved}
use Rattle.files.proofs.MovedFiles.{first-among}
use Rattle.files.proofs.NamesApart.{requirements-apart, rewrites-apart}
use Rattle.files.proofs.SavedInPlace.{a_save_puts_all_into_place, a_saved_journal_has_bytes}
use Rattle.files.proofs.StandingFiles.{all_also, in_place_same}
use Rattle.files.proofs.WrittenOrGone.{names_in, not-going}
use Rattle.files.specs.Beside.{has_requirements}
use Rattle.files.specs.Completed.{AreLocksToldApart, CanBeCompleted, Completes, GivesWay, IsBeyondRepair, StaysCompletable}
use Rattle.files.specs.Places.{AreInPlace, AreKnown, StandAt, StandsFor, bytes_read, bytes_saved, standing}
use Rattle.files.specs.Rewrites.{going_of}
use Rattle.files.specs.Saving.{goings, writes}
use Rattle.power_cuts.proofs.RisingLocks.{rise-sorted}
use Rattle.power_cuts.proofs.SavedLocks.{lock_names, saved-rise}
use Rattle.power_cuts.proofs.Writes.{first-has, whatever-stood}
use Rattle.power_cuts.specs.Stopped.{IsStopped}

-- files that stand for a history in their places need no other
pub stands-complete : (held : Held) (history : HistoryParts) → StandsFor held history → CanBeCompleted held
stands-complete held history stands = (λ file. false, record { files = stands.files; stand = stands.places; history = history; opens = stands.opens; gives_way = tt })

-- ---- a file of a save that has come so far

module _ (files : List NewFileParts) (going : List (List ℕ)) (n : ℕ) (old : Held) (apart : AreApart files) where
  -- those that are in their places
  abbrev first : List NewFileParts
  first = take (n - length going) files

  abbrev now : Held
  now = changed files going n old

  -- whether a file stands beside its place
  abbrev is_beside : List ℕ → Bool
  is_beside name = is_among (names_of files) name && not (is_among (names_of first) name)

  gone-less : (name : List ℕ) (text : List ℕ) → without_all going old.placed name ≡ Some text → without_all (take n going) old.placed name ≡ Some text
  gone-less name text is =
      without_all-at (take n going) old.placed name ∙ less (is_among going name) (is_among (take n going) name) (first-among going going n (λ x is. is) name) (sym (without_all-at going old.placed name) ∙ is)
    where
      less : (a b : Bool) → (b ≡ true → a ≡ true) → (if a then None else old.placed name) ≡ Some text → (if b then None else old.placed name) ≡ Some text
      less true b so is = absurd (cc is)
      less false true so is = absurd (true≢false (sym (so refl)))
      less false false so is = is

  -- what is to stand in the place of a file at the end stands there, or beside it
  stands-so_far : (file : InputFile) (text : List ℕ) → (saved files going old).placed (name_of file) ≡ Some text → standing (is_beside (name_of file)) now file ≡ Some text
  stands-so_far file text is = at (is_among (names_of files) (name_of file)) (is_among (names_of first) (name_of file)) refl refl
    where
      at : (a b : Bool) → is_among (names_of files) (name_of file) ≡ a → is_among (names_of first) (name_of file) ≡ b → standing (a && not b) now file ≡ Some text
      at true true among done = first-has files (n - length going) (without_all (take n going) old.placed) (name_of file) apart done ∙ whatever-stood files (without_all (take n going) old.placed) (without_all going old.placed) (name_of file) among ∙ is
      at true false among other =
          without_all-at (names_of first) (with_all files old.beside) (name_of file) ∙ ap (λ (b : Bool). if b then None else with_all files old.beside (name_of file)) other
          ∙ whatever-stood files old.beside (without_all going old.placed) (name_of file) among ∙ is
      at false true none done = absurd (true≢false (sym done ∙ not_among_first files (n - length going) (name_of file) none))
      at false false none other =
          with_all-miss first (without_all (take n going) old.placed) (name_of file) other
          ∙ gone-less (name_of file) text (sym (with_all-miss files (without_all going old.placed) (name_of file) none) ∙ is)

-- ---- a save

module _ (history next : HistoryParts) (left : Held) (stopped : IsStopped history next left) (known : AreKnown stopped.old (bytes_read stopped.files))
    (has : has_requirements next.past.states stopped.stood.files.requirements ≡ true) where
  abbrev form : Saved
  form = stopped.save.form

  abbrev made : List NewFileParts
  made = writes stopped.files form

  abbrev gone : List (List ℕ)
  gone = goings stopped.files form

  rise : IsOrdered (slice_cmp nat_cmp) form.locks
  rise = rise-sorted (lock_names form.locks.entries) (saved-rise next form stopped.save.is stopped.save.opens.opens)

  in-place : AreInPlace (saved made gone stopped.old) (bytes_saved form)
  in-place = a_save_puts_all_into_place stopped.files form stopped.old known rise (a_saved_journal_has_bytes next form stopped.save.is)

  module _ (n : ℕ) where
    abbrev so_far : Held
    so_far = changed made gone n stopped.old

    abbrev way : InputFile → Bool
    way file = is_beside made gone n stopped.old (rewrites-apart stopped.files form rise) (name_of file)

    so-far : (file : InputFile) (text : List ℕ) → (saved made gone stopped.old).placed (name_of file) ≡ Some text → standing (way file) so_far file ≡ Some text
    so-far = stands-so_far made gone n stopped.old (rewrites-apart stopped.files form rise)

    -- no requirements file goes
    stays : is_among (take n gone) (codes "requirements.txt") ≡ false
    stays = elim (cases_Bool (is_among (take n gone) (codes "requirements.txt"))) [
      | inl is ↦ absurd (true≢false (sym (first-among gone gone n (λ x is. is) (codes "requirements.txt") is) ∙ not-going form stopped.files.locks.entries (codes "requirements.txt") (λ lock none. requirements-apart lock.0)))
      | inr none ↦ none
    ]

    gives : (a b : Bool) → is_among (names_of (take (n - length gone) made)) (codes "requirements.txt") ≡ b → GivesWay (a && not b) next so_far
    gives true false other = (
      stopped.stood.files.requirements,
      with_all-miss (take (n - length gone) made) (without_all (take n gone) stopped.old.placed) (codes "requirements.txt") other
          ∙ without_all-at (take n gone) stopped.old.placed (codes "requirements.txt") ∙ ap (λ (b : Bool). if b then None else stopped.old.placed (codes "requirements.txt")) stays ∙ stopped.stood.places.requirements,
      has,
    )
    gives true true other = tt
    gives false b other = tt

    completes : Completes way so_far
    completes = record {
      files = bytes_saved form;
      stand = record {
        requirements = so-far Requirements form.requirements in-place.requirements;
        locks = all_also (λ (lock : List ℕ × List ℕ). standing false (saved made gone stopped.old) (Lock lock.0) ≡ Some lock.1) (λ (lock : List ℕ × List ℕ). standing (way (Lock lock.0)) so_far (Lock lock.0) ≡ Some lock.1) form.locks.entries
            (λ lock is. so-far (Lock lock.0) lock.1 is) in-place.locks;
        journal = so-far Journal form.journal in-place.journal;
      };
      history = next;
      opens = stopped.save.opens.opens;
      gives_way = gives (is_among (names_of made) (codes "requirements.txt")) (is_among (names_of (take (n - length gone) made)) (codes "requirements.txt")) refl;
    }

  -- it can be completed, to the old history or to the new one
  pub can-be : CanBeCompleted left
  can-be = elim stopped.save.so_far [
    | inl same ↦ stands-complete left history (record { files = stopped.stood.files; places = in_place_same stopped.old left stopped.stood.files same.placed stopped.stood.places; opens = stopped.stood.opens })
    | inr some ↦ subst (λ (k : Held). CanBeCompleted k) (sym some.2) (way some.0, completes some.0)
  ]

-- so it isn't beyond repair, where what was left of it can be completed still
pub not-refused : (history next : HistoryParts) (left now : Held) (stopped : IsStopped history next left) → AreKnown stopped.old (bytes_read stopped.files)
    → has_requirements next.past.states stopped.stood.files.requirements ≡ true → StaysCompletable left now → AreLocksToldApart now → IsBeyondRepair now → ⊥
not-refused history next left now stopped known has stays apart beyond = beyond apart (stays (can-be history next left stopped known has))
