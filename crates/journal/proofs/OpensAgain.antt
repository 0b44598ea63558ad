-- A history that was saved opens again.
use Rattle.std.proofs.Common.{◌≡◌, ◌≢◌, ℕ, zero, suc, ◌+◌, ◌<◌, true, List, [], ◌∷◌, ◌++◌, length, Option, Some, None, Ok, refl, sym, ap, subst, ◌∙◌, inl, inr, arith}
use Rattle.std.specs.Int.{byte_at, bytes_high_first, to_be_bytes, w32}
use Rattle.std.specs.Prelude.{slice_get, slice_index}
use Rattle.std.proofs.lemmas.Bool.{cases_Bool}
use Rattle.std.proofs.lemmas.Option.{slice_get_within}
use Rattle.std.specs.List.{AllByRecursion, AllZip, Contains, concat, flat_map}
use Rattle.hex.specs.Hex.{IsBytes}
use Rattle.lists.specs.Rising.{rises}
use Rattle.lists.proofs.Members.{Contains-cons_cases, Contains-nil}
use Rattle.sha2.specs.Sha256.{digest_bytes, sha256}
use Rattle.sha2.proofs.Facts256.{length-sha256}
use Rattle.pep508.specs.Requirement.{file_of}
use Rattle.serde_json.specs.Data.{Data}
use Rattle.serde_json.specs.Written.{compact_text}
use Rattle.changes.specs.Changes.{ChangeParts}
use Rattle.changes.specs.Laws.{AChangeLeadsToOneState}
use Rattle.states.specs.State.{IsLockFor, IsState}
use Rattle.states.specs.StateParts.{digest_of}
use Rattle.states.specs.TargetNames.{is_target_name}
use Rattle.journal.specs.Values.{State, Target}
use Rattle.journal.specs.Changes.{AreSteps, HistoryParts}
use Rattle.journal_format.specs.Forms.{json_of}
use Rattle.journal_format.specs.Lines.{IsStepLine, are_targets, has_target, header_of_line, step_of_line}
use Rattle.journal_format.specs.Tied.LawfulTargets.{IsLawfulStep}
use Rattle.journal_format.specs.Written.{header_data, line_of, step_data}
use Rattle.journal.specs.Locks.{LockTexts, odd_lock}
use Rattle.journal.specs.Tied.LocksWritten.{IsLawfulTarget, IsWrittenLock}
use Rattle.journal.specs.Opens.{Agrees, BeginsWith, Fit, IsAnswer, NamesEnvironment, Opens, Present, StepLines}
use Rattle.journal.specs.Saved.{IsSaved, OpensAs, header_for, stay_all, targets_for, version_for}
use Rattle.journal.specs.Tied.{AreWritten, IsWritten}
use Rattle.journal_format.specs.declared.header.Header.{Header}
use Rattle.journal_format.specs.declared.header.JournalVersion.TheVariants.{One}
use Rattle.journal.specs.declared.saved.Saved.{Saved}
use Rattle.journal.proofs.ChangesRead.{IsRead, MayName, all-may, any-may, changes-read}
use Rattle.journal.proofs.SavedVersions.{all-stay, have-targets}
use Rattle.journal_format.proofs.HeaderBack.{IsHeader, IsTarget, header-back}
use Rattle.journal.proofs.Histories.{AreSteps-count}
use Rattle.journal_format.proofs.LinesCut.{cut-written}
use Rattle.journal.proofs.LocksAgain.{name-known, names, names-for, none-odd, targets-again}
use Rattle.journal.proofs.OpensOnce.{opens-once}
use Rattle.journal.proofs.PresentFacts.{reads_present}
use Rattle.journal.proofs.StatesAgain.{past-again, state-at}
use Rattle.pylock.proofs.CanonicalBack.{ReadsVersions}
use Rattle.journal_format.proofs.StepsBack.{IsDigest}

bytes-append : (xs ys : List ℕ) → IsBytes xs → IsBytes ys → IsBytes (xs ++ ys)
bytes-append [] ys h g i = g i
bytes-append (x ∷ xs) ys h g zero = h zero
bytes-append (x ∷ xs) ys h g (suc i) = bytes-append xs ys (λ k. h (suc k)) g i

byte-below : (k n : ℕ) → byte_at k n < 256
byte-below zero n = omega arith
byte-below (suc k) n = omega arith

high-bytes : (k n : ℕ) → IsBytes (bytes_high_first k n)
high-bytes zero n i = omega arith
high-bytes (suc k) n zero = byte-below k n
high-bytes (suc k) n (suc i) = high-bytes k n i

word-bytes : (n : ℕ) → IsBytes (to_be_bytes w32 n)
word-bytes n = high-bytes 4 n

digest-bytes : (h : List ℕ) (n : ℕ) → IsBytes (digest_bytes h n)
unfolding digest_bytes
digest-bytes h zero i = omega arith
digest-bytes h (suc n) i = bytes-append (digest_bytes h n) (to_be_bytes w32 (slice_index h n)) (digest-bytes h n) (word-bytes (slice_index h n)) i

-- what is computed is a digest
pub sha256-digest : (text : List ℕ) → IsDigest (sha256 text)
unfolding sha256
sha256-digest text = record { size = length-sha256 text; bytes = digest-bytes _ 8 }

pub json-back : (d : Data) → IsWritten d → json_of (compact_text d) ≡ Ok d
unfolding json_of
json-back d h = rw (h.utf8, h.reads) refl

step-line : (header : Header) (c : ChangeParts) → IsWritten (step_data c) → IsRead header c → IsStepLine header (compact_text (step_data c)) c
unfolding step_of_line
step-line header c written is = record { reads = rw (json-back (step_data c) written, is.back) refl; minimal = is.minimal }

-- the lines of changes are read as these
steps-again : (header : Header) (number : ℕ) (changes : List ChangeParts) → AllByRecursion (λ c. IsWritten (step_data c)) changes → AllByRecursion (IsRead header) changes
    → StepLines header (length changes) number (flat_map (λ c. line_of (step_data c)) changes) (Ok changes)
steps-again header number [] written read = inl (refl, refl)
steps-again header number (c ∷ cs) written read =
    let rest = flat_map (λ c. line_of (step_data c)) cs in
    inl ((c, rest), record { line = compact_text (step_data c); cut = cut-written (step_data c) rest; is_step = step-line header c written.0 read.0 }, (Ok cs, steps-again header (number + 1) cs written.1 read.1, refl))

begins-again : (header : Header) (rest : List ℕ) → IsWritten (header_data header) → IsHeader header → BeginsWith (line_of (header_data header) ++ rest) (header, rest)
unfolding header_of_line
begins-again header rest written is = record {
  line = compact_text (header_data header);
  cut = cut-written (header_data header) rest;
  header = rw (json-back (header_data header) written, header-back header is) refl;
}

-- ---- the present state

-- the locks of the targets fit the state
fit-again : (state : State) (targets : List Target) → AllByRecursion (λ t. IsLockFor state.lines t.environment t.lock) targets
    → AllByRecursion (λ t. t.lock.snapshot ≡ digest_of state.targets) targets → Fit state targets (IsAnswer state) (Ok state)
fit-again state [] locks digests = refl
fit-again state (t ∷ targets) locks digests = inl ((locks.0, digests.0), fit-again state targets locks.1 digests.1)

named-again : (lines : List (List ℕ)) (targets : List Target) → AllByRecursion (λ t. IsLockFor lines t.environment t.lock) targets → AllByRecursion NamesEnvironment targets
named-again lines [] locks = tt
named-again lines (t ∷ targets) locks = (locks.0.named, named-again lines targets locks.1)

pub present-again : (state : State) (cursor : ℕ) (changes : List ChangeParts) (requirements : List ℕ) (locks : LockTexts) → IsState state → requirements ≡ concat state.lines → AllZip IsWrittenLock state.targets locks
    → Present (header_for state cursor changes requirements locks) requirements locks (Ok state)
present-again state cursor changes requirements locks is lines written =
    let header = header_for state cursor changes requirements locks in
    let read : file_of requirements ≡ Ok state.lines = rw lines is.lines in
    let odd : odd_lock header locks ≡ None = none-odd header state.targets locks refl is.rising written in
    let behind : reads_present header requirements locks (Ok state) =
    inl (state.lines, read, (Ok state.targets, targets-again state.targets locks is.rising written, inl (named-again state.lines state.targets is.locks, refl))) in
    let agreed : Agrees (odd_lock header locks) (reads_present header requirements locks) (Ok state) =
    subst (λ (o : Option (List ℕ)). Agrees o (reads_present header requirements locks) (Ok state)) (sym odd) behind in
    (Ok state, inl (refl, agreed), fit-again state state.targets is.locks is.digest)

-- ---- the header

targets-lawful : (targets : List Target) (locks : LockTexts) → AllZip IsWrittenLock targets locks → AllByRecursion IsLawfulTarget targets → AllByRecursion IsTarget (targets_for targets locks)
targets-lawful [] locks written lawful = tt
targets-lawful (t ∷ targets) [] written lawful = absurd written
targets-lawful (t ∷ targets) (l ∷ locks) written lawful =
    (record { name = lawful.0.name; environment = lawful.0.environment; lock = sha256-digest l.1 }, targets-lawful targets locks written.1 lawful.1)

targets-rise : (targets : List Target) (locks : LockTexts) → AllZip IsWrittenLock targets locks → targets ≢ [] → rises (names targets) ≡ true → are_targets (targets_for targets locks) ≡ true
targets-rise [] locks written some rise = absurd (some refl)
targets-rise (t ∷ targets) [] written some rise = absurd written
targets-rise (t ∷ targets) (l ∷ locks) written some rise = ap rises (names-for (t ∷ targets) (l ∷ locks) written) ∙ rise

pub name-lawful : (targets : List Target) (name : List ℕ) → AllByRecursion IsLawfulTarget targets → Contains (names targets) name → is_target_name name ≡ true
name-lawful [] name lawful there = absurd (Contains-nil name there)
name-lawful (t ∷ targets) name lawful there = elim (Contains-cons_cases t.name (names targets) name there) [
  | inl same ↦ subst (λ (n : List ℕ). is_target_name n ≡ true) same lawful.0.name
  | inr more ↦ name-lawful targets name lawful.1 more
]

-- the version of a saved header
later-version : (changes : List ChangeParts) → version_for changes ≢ One
later-version changes = elim (cases_Bool (stay_all changes)) [
  | inl all ↦ rw all (λ one. cc one)
  | inr moves ↦ rw moves (λ one. cc one)
]

-- each entry may be of its target behind the saved header
may-all : (state : State) (states : List State) (changes : List ChangeParts) (n : ℕ) (header : Header) → header.version ≡ version_for changes → ((name : List ℕ) → Contains (names state.targets) name → has_target header name ≡ true)
    → AreSteps states changes → slice_get states n ≡ Some state → AllByRecursion (MayName header) changes
may-all state states changes n header version known steps at = elim (cases_Bool (stay_all changes)) [
  | inl all ↦ all-may header states changes n state (all-stay changes all) steps at known
  | inr moves ↦ any-may header (version ∙ rw moves refl) changes
]

pub opens-again : ReadsVersions → (history : HistoryParts) (saved : Saved) (is : IsSaved history saved) → AllByRecursion IsState history.past.states → AllByRecursion IsLawfulTarget is.state.targets
    → AllByRecursion IsLawfulStep history.changes → AllZip IsWrittenLock is.state.targets saved.locks.entries → AreWritten (header_for is.state history.past.cursor history.changes saved.requirements saved.locks.entries) history.changes
    → Opens saved.requirements saved.locks.entries saved.journal (Ok history)
opens-again versions history saved is lawful targets steps_lawful files written =
    let past = history.past in
    let changes = history.changes in
    let locks = saved.locks.entries in
    let header = header_for is.state past.cursor changes saved.requirements locks in
    let rest = flat_map (λ c. line_of (step_data c)) changes in
    let state_lawful : IsState is.state = state-at past.states past.cursor is.state lawful is.state_is in
    let count = AreSteps-count past.states changes is.steps in
    let within = slice_get_within past.states past.cursor is.state is.state_is in
    let header_is : IsHeader header = record {
      later = later-version changes;
      requirements = sha256-digest saved.requirements;
      within = omega (arith, count, within);
      targets = targets-lawful is.state.targets locks files targets;
      rising = targets-rise is.state.targets locks files state_lawful.some state_lawful.rising;
    } in
    let begins : BeginsWith saved.journal (header, rest) = subst (λ journal. BeginsWith journal (header, rest)) (sym is.journal) (begins-again header rest written.header_line header_is) in
    let present = present-again is.state past.cursor changes saved.requirements locks state_lawful is.requirements files in
    let may = may-all is.state past.states changes past.cursor header refl (λ name there. name-known is.state.targets locks name files there) is.steps is.state_is in
    let read = changes-read header versions past.states changes is.steps lawful (have-targets changes) steps_lawful may in
    let steps = steps-again header 2 changes written.step_lines read in
    let walked = past-again past changes is.state is.steps lawful is.state_is in
    inl ((header, rest), begins, (Ok is.state, present, (Ok changes, steps, (Ok past, walked, refl))))

-- a saved history opens again, and as nothing else
pub opens-as : AChangeLeadsToOneState → ReadsVersions → (history : HistoryParts) (saved : Saved) (is : IsSaved history saved) → AllByRecursion IsState history.past.states → AllByRecursion IsLawfulTarget is.state.targets
    → AllByRecursion IsLawfulStep history.changes → AllZip IsWrittenLock is.state.targets saved.locks.entries → AreWritten (header_for is.state history.past.cursor history.changes saved.requirements saved.locks.entries) history.changes
    → OpensAs history saved
opens-as one versions history saved is lawful targets steps_lawful files written =
    let opens = opens-again versions history saved is lawful targets steps_lawful files written in
    record {
      opens = opens;
      alone = λ answer other. opens-once one saved.requirements saved.locks.entries saved.journal answer (Ok history) other opens;
    }
