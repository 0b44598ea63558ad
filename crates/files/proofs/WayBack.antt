-- What a stopped save has left to do leads to files that stand for a history, and wherever that is stopped, it can be done still.
use Rattle.std.proofs.Common.{◌≡◌, ◌⊎◌, ◌∙◌, ◌||◌, ℕ, Bool, true, false, List, [], ◌∷◌, Option, Some, None, Ok, ap, filter, inl, inr, is_some, map, refl, subst, sym, take, true≢false}
use Rattle.std.proofs.lemmas.Bool.{cases_Bool}
use Rattle.std.proofs.lemmas.Slice.Eq.{bytes_eq-Decides}
use Rattle.std.specs.BTreeMap.{IsOrdered}
use Rattle.std.specs.Cmp.Lexicographic.{slice_cmp}
use Rattle.std.specs.List.{AllByRecursion, list_any}
use Rattle.std.specs.Ordering.{nat_cmp}
use Rattle.std.specs.Prelude.{◌&&◌, IsSomeAnd, codes, not}
use Rattle.std.specs.Str.{bytes_eq}
use Rattle.states.specs.TargetNames.{file_name}
use Rattle.changes.specs.Changes.{ChangeParts}
use Rattle.folder.specs.Held.{Held, in_turn, is_among, removed, renamed}
use Rattle.folder.specs.Repairs.{AreAmong, AreBeside, IsEnding, LeftParts, finished}
use Rattle.inputs.specs.FileNames.{name_of}
use Rattle.inputs.specs.declared.input_files.InputFile.{InputFile}
use Rattle.inputs.specs.declared.input_files.InputFile.TheVariants.{Requirements, Lock, Journal}
use Rattle.journal.specs.Changes.{HistoryParts}
use Rattle.journal.specs.Locks.{LockTexts, lock_at}
use Rattle.journal.specs.Opens.{Opens}
use Rattle.journal.specs.Past.{present}
use Rattle.journal.specs.Values.{State, Target}
use Rattle.files.proofs.JournalNames.{among-targets, header_names, have-names}
use Rattle.files.proofs.MovedFiles.{first-among, first-beside, stands-still, stays-placed}
use Rattle.files.proofs.NamedLocks.{found_or}
use Rattle.files.proofs.NamesApart.{differs, journal-apart, one-target, requirements-apart}
use Rattle.files.proofs.OtherLocks.{HasHeader, has-header}
use Rattle.files.proofs.PresentNames.{present-names}
use Rattle.files.proofs.StandingFiles.{taken_stand}
use Rattle.files.proofs.TakenNames.{journal-taken, lock-taken, names_in, requirements-taken}
use Rattle.files.proofs.WrittenOrGone.{Has, all-from, all-in}
use Rattle.files.specs.Beside.{StandFor, has, taken_from}
use Rattle.files.specs.Completed.{Completes, GivesWay, IsWayBack}
use Rattle.files.specs.JournalLocks.{HaveNames}
use Rattle.files.specs.Places.{AreInPlace, StandAt, bytes_read, standing}
use Rattle.files.specs.TargetLocks.{AreGone, has_gone, has_target, is_told_of, locks_gone}
use Rattle.files.specs.declared.beside.Beside.{Beside}
use Rattle.files.specs.declared.saved_files.SavedFiles.{SavedFiles}

-- ---- what goes

-- none of these names is that of one of the files
pub record AreOthers (files : SavedFiles) (going : List (List ℕ)) : Type 0 where
  pub requirements : is_among going (name_of Requirements) ≡ false
  pub locks : (lock : List ℕ × List ℕ) → Has lock files.locks.entries → is_among going (file_name lock.0) ≡ false
  pub journal : is_among going (name_of Journal) ≡ false

gone-other : (targets : List Target) (changes : List ChangeParts) (names : List (List ℕ)) (x : List ℕ) → ((name : List ℕ) → has_gone targets changes name ≡ true → file_name name ≡ x → ⊥)
    → is_among (names_in (locks_gone targets changes names)) x ≡ false
gone-other targets changes [] x apart = refl
gone-other targets changes (name ∷ names) x apart = one (has_gone targets changes name) refl (gone-other targets changes names x apart)
  where
    one : (b : Bool) → has_gone targets changes name ≡ b → is_among (names_in (locks_gone targets changes names)) x ≡ false → is_among (names_in (locks_gone targets changes (name ∷ names))) x ≡ false
    one true gone rest = rw gone (ap (λ (b : Bool). b || is_among (names_in (locks_gone targets changes names)) x) (differs (file_name name) x (apart name gone)) ∙ rest)
    one false stays rest = rw stays rest

not-gone : (targets : List Target) (changes : List ChangeParts) (name : List ℕ) → has_target targets name ≡ true → has_gone targets changes name ≡ true → ⊥
not-gone targets changes name there gone = true≢false (sym (sym (ap (λ (b : Bool). not b && is_told_of changes name) there) ∙ gone))

named-targets : (targets : List Target) (name : List ℕ) → list_any (λ other. bytes_eq other name) (map (λ t. t.name) targets) ≡ has_target targets name
named-targets [] name = refl
named-targets (t ∷ targets) name = ap (λ (b : Bool). bytes_eq t.name name || b) (named-targets targets name)

has-found : (lock : List ℕ × List ℕ) (locks : LockTexts) → Has lock locks → is_some (lock_at locks lock.0) ≡ true
has-found lock [] is = absurd is
has-found lock (other ∷ locks) (inl same) = found_or (bytes_eq lock.0 other.0) other.1 (lock_at locks lock.0) ∙ or-left (bytes_eq lock.0 other.0) (is_some (lock_at locks lock.0)) ((bytes_eq-Decides lock.0 other.0).1 (ap (λ (l : List ℕ × List ℕ). l.0) same))
  where
    or-left : (a b : Bool) → a ≡ true → (a || b) ≡ true
    or-left true b is = refl
    or-left false b is = absurd (true≢false (sym is))
has-found lock (other ∷ locks) (inr more) = found_or (bytes_eq lock.0 other.0) other.1 (lock_at locks lock.0) ∙ or-right (bytes_eq lock.0 other.0) (is_some (lock_at locks lock.0)) (has-found lock locks more)
  where
    or-right : (a b : Bool) → b ≡ true → (a || b) ≡ true
    or-right true b is = refl
    or-right false b is = is

-- the locks that go are of targets that the present state hasn't
pub gone-others : (files : SavedFiles) (history : HistoryParts) (going : List InputFile) → StandFor files history → AreGone history going → AreOthers files (names_in going)
gone-others files history going opens gone = by (present history.past) refl gone
  where
    a : HasHeader files.requirements.items files.locks.entries files.journal history
    a = has-header files.requirements.items files.locks.entries files.journal history opens

    by : (now : Option State) → present history.past ≡ now → IsSomeAnd now (λ state. (names : List (List ℕ)) × (going ≡ locks_gone state.targets history.changes names)) → AreOthers files (names_in going)
    by None is none = absurd none
    by (Some state) is is_gone =
        let others : (x : List ℕ) → ((name : List ℕ) → has_gone state.targets history.changes name ≡ true → file_name name ≡ x → ⊥) → is_among (names_in going) x ≡ false =
        λ x apart. ap (λ (files : List InputFile). is_among (names_in files) x) is_gone.1 ∙ gone-other state.targets history.changes is_gone.0 x apart in
        record {
          requirements = others (codes "requirements.txt") (λ name gone. requirements-apart name);
          locks = λ lock there. others (file_name lock.0) (λ name gone same. not-gone state.targets history.changes name (known lock there name (one-target name lock.0 same)) gone);
          journal = others (codes "reqlock.journal") (λ name gone. journal-apart name);
        }
      where
        known : (lock : List ℕ × List ℕ) → Has lock files.locks.entries → (name : List ℕ) → name ≡ lock.0 → has_target state.targets name ≡ true
        known lock there name same =
            let have = have-names a.begin.0 files.locks.entries a.told.none lock.0 in
            let names = present-names files.requirements.items files.locks.entries files.journal history a state is in
            ap (λ (n : List ℕ). has_target state.targets n) same ∙ sym (named-targets state.targets lock.0) ∙ ap (λ (all : List (List ℕ)). list_any (λ other. bytes_eq other lock.0) all) names
            ∙ sym have ∙ has-found lock files.locks.entries there

pub none-others : (files : SavedFiles) → AreOthers files []
none-others files = record { requirements = refl; locks = λ lock there. refl; journal = refl }

-- ---- the way back

not-among : (some all : List (List ℕ)) (x : List ℕ) → AreAmong some all → is_among all x ≡ false → is_among some x ≡ false
not-among some all x are other = elim (cases_Bool (is_among some x)) [ inl is ↦ absurd (true≢false (sym (are x is) ∙ other)) | inr none ↦ none ]

both-ways : (a : Bool) → (a && not a) ≡ false
both-ways true = refl
both-ways false = refl

module _ (beside : Beside) (files : SavedFiles) (h : Held) (history : HistoryParts) (going : List (List ℕ)) (rise : IsOrdered (slice_cmp nat_cmp) files.locks) (stand : StandAt (has beside) h (bytes_read files))
    (opens : StandFor files history) (gives : GivesWay beside.requirements history h) (others : AreOthers files going) where
  abbrev names : List (List ℕ)
  names = names_in (taken_from beside files)

  are : AreBeside names h
  are = taken_stand beside files h rise stand

  module _ (gone put : List (List ℕ)) (some_gone : AreAmong gone going) (some_put : AreAmong put names) (are_put : AreBeside put h) where
    abbrev now : Held
    now = in_turn renamed put (in_turn removed gone h)

    abbrev way : InputFile → Bool
    way file = has beside file && not (is_among put (name_of file))

    in-beside : (file : InputFile) → is_among names (name_of file) ≡ has beside file → is_among put (name_of file) ≡ true → has beside file ≡ true
    in-beside file same is = sym same ∙ some_put (name_of file) is

    stands : StandAt way now (bytes_read files)
    stands = record {
      requirements =
          stands-still gone put h are_put beside.requirements Requirements files.requirements.items stand.requirements (not-among gone going (name_of Requirements) some_gone others.requirements)
          (in-beside Requirements (requirements-taken beside files));
      locks = all-from (λ (lock : List ℕ × List ℕ). standing (way (Lock lock.0)) now (Lock lock.0) ≡ Some lock.1) files.locks.entries (λ lock there.
          stands-still gone put h are_put (has beside (Lock lock.0)) (Lock lock.0) lock.1
          (all-in (λ (lock : List ℕ × List ℕ). standing (has beside (Lock lock.0)) h (Lock lock.0) ≡ Some lock.1) lock files.locks.entries stand.locks there)
          (not-among gone going (file_name lock.0) some_gone (others.locks lock there)) (in-beside (Lock lock.0) (lock-taken beside files lock there)));
      journal =
          stands-still gone put h are_put beside.journal Journal files.journal stand.journal (not-among gone going (name_of Journal) some_gone others.journal) (in-beside Journal (journal-taken beside files));
    }

    gives-still : (a b : Bool) → is_among put (name_of Requirements) ≡ b → GivesWay a history h → GivesWay (a && not b) history now
    gives-still true false other gives = (gives.0, stays-placed gone put h are_put (name_of Requirements) other (not-among gone going (name_of Requirements) some_gone others.requirements) ∙ gives.1, gives.2)
    gives-still true true other gives = tt
    gives-still false b other gives = tt

    completes : Completes way now
    completes = record {
      files = bytes_read files;
      stand = stands;
      history = history;
      opens = opens;
      gives_way = gives-still beside.requirements (is_among put (name_of Requirements)) refl gives;
    }

  all-among : (all : List (List ℕ)) → AreAmong all all
  all-among all x is = is

  -- when all is done, the files stand in their places
  in-places : AreInPlace (in_turn renamed names (in_turn removed going h)) (bytes_read files)
  in-places =
      let done = in_turn renamed names (in_turn removed going h) in
      let all = stands going names (all-among going) (all-among names) are in
      let to : (file : InputFile) (bytes : List ℕ) → is_among names (name_of file) ≡ has beside file → standing (has beside file && not (is_among names (name_of file))) done file ≡ Some bytes → standing false done file ≡ Some bytes =
      λ file bytes same is. subst (λ (b : Bool). standing b done file ≡ Some bytes) (ap (λ (b : Bool). has beside file && not b) same ∙ both-ways (has beside file)) is in
      record {
        requirements = to Requirements files.requirements.items (requirements-taken beside files) all.requirements;
        locks = all-from (λ (lock : List ℕ × List ℕ). standing false done (Lock lock.0) ≡ Some lock.1) files.locks.entries (λ lock there. to (Lock lock.0) lock.1 (lock-taken beside files lock there)
            (all-in (λ (lock : List ℕ × List ℕ). standing (has beside (Lock lock.0) && not (is_among names (file_name lock.0))) done (Lock lock.0) ≡ Some lock.1) lock files.locks.entries all.locks there));
        journal = to Journal files.journal (journal-taken beside files) all.journal;
      }

  pub way-back : IsWayBack (record { going = going; names = names }) h
  way-back = record {
    done = (history, record { files = bytes_read files; places = in-places; opens = opens });
    stopped = λ now ending. elim ending [
      | inl removing ↦
          let gone = take removing.0 going in
          subst (λ (k : Held). (w : InputFile → Bool) × Completes w k) (sym removing.2) (
            way gone [] (first-among going going removing.0 (all-among going)) (λ x is. absurd (true≢false (sym is))) tt,
            completes gone [] (first-among going going removing.0 (all-among going)) (λ x is. absurd (true≢false (sym is))) tt,
          )
      | inr renaming ↦
          let put = take renaming.0 names in
          subst (λ (k : Held). (w : InputFile → Bool) × Completes w k) (sym renaming.2) (
            way going put (all-among going) (first-among names names renaming.0 (all-among names)) (first-beside names renaming.0 h are),
            completes going put (all-among going) (first-among names names renaming.0 (all-among names)) (first-beside names renaming.0 h are),
          )
    ];
  }
