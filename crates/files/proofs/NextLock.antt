-- Where files don't open, the fault is of the lock that is to be taken from beside its place next.
use Rattle.std.proofs.Common.{◌≡◌, ◌⊎◌, ◌∙◌, ◌||◌, ℕ, Bool, true, false, List, [], ◌∷◌, Option, Some, None, Result, Ok, Err, ap, inl, inr, is_some, map, refl, subst, sym, true≢false}
use Rattle.std.specs.Prelude.{find, not, option_map}
use Rattle.std.proofs.lemmas.Bool.{cases_Bool}
use Rattle.std.proofs.lemmas.Slice.Eq.{bytes_eq-Decides}
use Rattle.std.specs.Cmp.Lexicographic.{slice_cmp}
use Rattle.std.specs.List.{AllByRecursion, list_any}
use Rattle.std.specs.Option.{option_map_or}
use Rattle.std.specs.Ordering.{is_lt, nat_cmp}
use Rattle.std.specs.Str.{bytes_eq}
use Rattle.sha2.specs.Sha256.{sha256}
use Rattle.changes.proofs.OneOutcome.{After-one}
use Rattle.states.specs.declared.refusal.Refusal.TheVariants.{FilesDisagree}
use Rattle.states.specs.declared.refusal.SavedFile.TheVariants as saved
use Rattle.folder.specs.Held.{Held}
use Rattle.inputs.specs.Faults.{fault_of}
use Rattle.inputs.specs.declared.fault.Fault.{Fault}
use Rattle.inputs.specs.declared.fault.Fault.TheVariants.{Input}
use Rattle.inputs.specs.declared.input_files.InputFault.{InputFault}
use Rattle.inputs.specs.declared.input_files.InputFault.TheVariants.{Disagrees}
use Rattle.inputs.specs.declared.input_files.InputFile.{InputFile}
use Rattle.inputs.specs.declared.input_files.InputFile.TheVariants.{Requirements, Lock, Journal, Index, Environment, NewRequirements, OldRequirements, Pins}
use Rattle.journal.specs.Changes.{HistoryParts}
use Rattle.journal.specs.Locks.{LockTexts, is_kept, lesser, lock_at, lost_lock, odd_lock, stray_lock}
use Rattle.journal.specs.Opens.{Agrees, Opens}
use Rattle.journal.specs.Values.{Refusal}
use Rattle.journal.proofs.OpensOnce.{opens-once}
use Rattle.journal_format.specs.declared.header.Header.{Header}
use Rattle.journal_format.specs.declared.header.HeaderTarget.{HeaderTarget}
use Rattle.files.specs.Beside.{has}
use Rattle.files.specs.Completed.{AreLocksToldApart, Completes}
use Rattle.files.specs.JournalLocks.{AreOfJournal, HaveNames, Names}
use Rattle.files.specs.NextLocks.{IsLacking, IsNext, IsNextOf, IsToRead, TakesMore}
use Rattle.files.specs.Places.{FileBytes, LocksStandAt, StandAt, standing}
use Rattle.files.specs.TargetLocks.{is_among}
use Rattle.files.specs.declared.beside.Beside.{Beside}
use Rattle.files.proofs.JournalNames.{among-targets, header_names, named-by, named-once, opens-named, some-there}
use Rattle.files.proofs.KeptLocks.{HasItsLock, all-kept}
use Rattle.files.proofs.OneInPlace.{lock-stands, one-text}
use Rattle.files.proofs.OpenedFiles.{none-stray}
use Rattle.files.proofs.OtherLocks.{AreSameLocks, HasHeader, has-header, opens-moved, with_locks}

-- ---- locks that have one digest

-- locks on one target with one digest are the same, wherever they stand
one-digest : (h : Held) (a b : Bool) (name one other : List ℕ) → AreLocksToldApart h → standing a h (Lock name) ≡ Some one → standing b h (Lock name) ≡ Some other → sha256 one ≡ sha256 other → one ≡ other
one-digest h false false name one other apart here there same = one-text (standing false h (Lock name)) one other here there
one-digest h true true name one other apart here there same = one-text (standing true h (Lock name)) one other here there
one-digest h false true name one other apart here there same = apart name one other here there same
one-digest h true false name one other apart here there same = sym (apart name other one there here (sym same))

pub one-by_digest : (h : Held) (a b : InputFile → Bool) (locks more : LockTexts) (targets : List HeaderTarget) → AreLocksToldApart h → LocksStandAt a h locks → LocksStandAt b h more
    → AllByRecursion (HasItsLock locks) targets → AllByRecursion (HasItsLock more) targets → AreSameLocks locks more targets
one-by_digest h a b locks more [] apart stand stand_too kept kept_too = tt
one-by_digest h a b locks more (t ∷ targets) apart stand stand_too kept kept_too = (
  kept.0.there
      ∙ ap (λ (text : List ℕ). Some text)
      (one-digest h (a (Lock t.name)) (b (Lock t.name)) t.name kept.0.text kept_too.0.text apart (lock-stands a h locks t.name kept.0.text stand kept.0.there) (lock-stands b h more t.name kept_too.0.text stand_too kept_too.0.there)
      (kept.0.digest ∙ sym kept_too.0.digest))
      ∙ sym kept_too.0.there,
  one-by_digest h a b locks more targets apart stand stand_too kept.1 kept_too.1,
)

-- ---- the odd lock

lesser-cases : (one other : Option (List ℕ)) (name : List ℕ) → lesser one other ≡ Some name → (one ≡ Some name) ⊎ (other ≡ Some name)
lesser-cases None other name is = inr is
lesser-cases (Some a) None name is = inl is
lesser-cases (Some a) (Some b) name is = elim (cases_Bool (is_lt (slice_cmp nat_cmp b a))) [
  | inl less ↦ inr (rw less at is)
  | inr more ↦ inl (rw more at is)
]

-- a target whose lock has another digest, where others have the digests of all
pub record IsLost (locks more : LockTexts) (targets : List HeaderTarget) (name : List ℕ) : Type 0 where
  pub target : HeaderTarget
  pub named : target.name ≡ name
  pub lost : is_kept locks target ≡ false
  pub kept : HasItsLock more target
  pub among : list_any (λ t. bytes_eq t.name name) targets ≡ true

lost-target : (locks more : LockTexts) (targets : List HeaderTarget) (name : List ℕ) → option_map (λ t. t.name) (find (λ t. not (is_kept locks t)) targets) ≡ Some name → AllByRecursion (HasItsLock more) targets
    → IsLost locks more targets name
lost-target locks more [] name is kept = absurd (cc is)
lost-target locks more (t ∷ targets) name is kept = elim (cases_Bool (is_kept locks t)) [
  | inl there ↦
      let rest = lost-target locks more targets name (rw there at is) kept.1 in
      record { target = rest.target; named = rest.named; lost = rest.lost; kept = rest.kept; among = or-right (bytes_eq t.name name) (list_any (λ o. bytes_eq o.name name) targets) rest.among }
  | inr lost ↦
      let one : Some t.name ≡ Some name = rw lost at is in
      let named : t.name ≡ name = cc in
      record { target = t; named = named; lost = lost; kept = kept.0; among = ap (λ (b : Bool). b || list_any (λ o. bytes_eq o.name name) targets) ((bytes_eq-Decides t.name name).1 named) }
]
  where
    or-right : (a b : Bool) → b ≡ true → a || b ≡ true
    or-right true b is = refl
    or-right false b is = is

not-kept : (locks : LockTexts) (t : HeaderTarget) (text : List ℕ) → is_kept locks t ≡ false → lock_at locks t.name ≡ Some text → sha256 text ≡ t.lock → ⊥
not-kept locks t text lost there same =
    let is : bytes_eq (sha256 text) t.lock ≡ false = sym (ap (λ (o : Option (List ℕ)). option_map_or (λ text. bytes_eq (sha256 text) t.lock) o false) there) ∙ lost in
    true≢false (sym ((bytes_eq-Decides (sha256 text) t.lock).1 same) ∙ is)

-- ---- where the odd lock is told

refused-odd : (requirements : List ℕ) (locks more : LockTexts) (journal : List ℕ) (history : HistoryParts) (a : HasHeader requirements more journal history) (name : List ℕ) → odd_lock a.begin.0 locks ≡ Some name
    → Opens requirements locks journal (Err (FilesDisagree (saved.Lock name)))
refused-odd requirements locks more journal history a name odd =
    let refusal = FilesDisagree (saved.Lock name) in
    inl (a.begin, a.begins, (Err refusal, (Err refusal, inl (a.told.digest, told), refl), refl))
  where
    told : Agrees (odd_lock a.begin.0 locks) (with_locks requirements locks a.begin.0.targets) (Err (FilesDisagree (saved.Lock name)))
    told = subst (λ (o : Option (List ℕ)). Agrees o (with_locks requirements locks a.begin.0.targets) (Err (FilesDisagree (saved.Lock name)))) (sym odd) refl

-- ---- a way that takes more

module _ (beside : Beside) (way : InputFile → Bool) (h : Held) (whole : Completes way h) (more : TakesMore beside way) where
  -- the same files but for locks
  requirements-same : (text : List ℕ) → standing beside.requirements h Requirements ≡ Some text → text ≡ whole.files.requirements
  requirements-same text there =
      one-text (standing beside.requirements h Requirements) text whole.files.requirements there (subst (λ (b : Bool). standing b h Requirements ≡ Some whole.files.requirements) more.requirements whole.stand.requirements)

  journal-same : (text : List ℕ) → standing beside.journal h Journal ≡ Some text → text ≡ whole.files.journal
  journal-same text there = one-text (standing beside.journal h Journal) text whole.files.journal there (subst (λ (b : Bool). standing b h Journal ≡ Some whole.files.journal) more.journal whole.stand.journal)

  -- a lock of which it takes another
  next-other : (name : List ℕ) → is_some (lock_at whole.files.locks name) ≡ true → (way (Lock name) ≡ has beside (Lock name) → ⊥) → IsNextOf beside way h whole (Lock name)
  next-other name there other = elim (cases_Bool (has beside (Lock name))) [
    | inl had ↦ absurd (other (more.locks name had ∙ sym had))
    | inr left ↦ elim (cases_Bool (way (Lock name))) [
      | inl taken ↦ record { name = name; is = refl; left = left; taken = taken; there = there }
      | inr none ↦ absurd (other (none ∙ sym left))
    ]
  ]

  -- what isn't there
  lacking-next : (file : InputFile) → IsToRead (has beside) file h → standing (has beside file) h file ≡ None → IsNextOf beside way h whole file
  lacking-next Requirements read none = absurd (cc (sym none ∙ subst (λ (b : Bool). standing b h Requirements ≡ Some whole.files.requirements) more.requirements whole.stand.requirements))
  lacking-next Journal read none = absurd (cc (sym none ∙ subst (λ (b : Bool). standing b h Journal ≡ Some whole.files.journal) more.journal whole.stand.journal))
  lacking-next (Lock name) read none = next-other name there (λ same. cc (sym none ∙ subst (λ (b : Bool). standing b h (Lock name) ≡ Some text.0) same stands))
    where
      of_journal : AreOfJournal whole.files.journal whole.files.locks
      of_journal = opens-named whole.files.requirements whole.files.locks whole.files.journal whole.history whole.opens

      one : of_journal.names ≡ read.1
      one = named-once whole.files.journal of_journal.names read.1 of_journal.named (subst (λ (j : List ℕ). Names j read.1) (journal-same read.0 read.2) read.3)

      there : is_some (lock_at whole.files.locks name) ≡ true
      there = of_journal.have name ∙ ap (λ (n : List (List ℕ)). is_among n name) one ∙ read.4

      text : (x : List ℕ) × (lock_at whole.files.locks name ≡ Some x)
      text = some-there (lock_at whole.files.locks name) there

      stands : standing (way (Lock name)) h (Lock name) ≡ Some text.0
      stands = lock-stands way h whole.files.locks name text.0 whole.stand.locks text.1
  lacking-next Index read none = absurd read
  lacking-next (Environment name) read none = absurd read
  lacking-next NewRequirements read none = absurd read
  lacking-next OldRequirements read none = absurd read
  lacking-next (Pins name) read none = absurd read

  -- what is refused
  module _ (apart : AreLocksToldApart h) (files : FileBytes) (stand : StandAt (has beside) h files) (of_journal : AreOfJournal files.journal files.locks) (refusal : Refusal)
      (refused : Opens files.requirements files.locks files.journal (Err refusal)) where
    abbrev opens : Opens files.requirements whole.files.locks files.journal (Ok whole.history)
    opens =
        subst (λ (r : List ℕ). Opens r whole.files.locks files.journal (Ok whole.history)) (sym (requirements-same files.requirements stand.requirements))
        (subst (λ (j : List ℕ). Opens whole.files.requirements whole.files.locks j (Ok whole.history)) (sym (journal-same files.journal stand.journal)) whole.opens)

    abbrev a : HasHeader files.requirements whole.files.locks files.journal whole.history
    a = has-header files.requirements whole.files.locks files.journal whole.history opens

    have : HaveNames files.locks (header_names a.begin.0)
    have = subst (HaveNames files.locks) (named-by files.journal of_journal.names a.begin of_journal.named a.begins) of_journal.have

    kept : AllByRecursion (HasItsLock whole.files.locks) a.begin.0.targets
    kept = all-kept a.begin.0 whole.files.locks a.told.none

    -- where no lock is odd, the files open
    none-odd : odd_lock a.begin.0 files.locks ≡ None → ⊥
    none-odd none =
        let same = one-by_digest h (has beside) way files.locks whole.files.locks a.begin.0.targets apart stand.locks whole.stand.locks (all-kept a.begin.0 files.locks none) kept in
        let again : Opens files.requirements files.locks files.journal (Ok whole.history) = opens-moved files.requirements files.locks whole.files.locks files.journal whole.history a none same in
        let both : Ok whole.history ≡ Err refusal = opens-once After-one files.requirements files.locks files.journal (Ok whole.history) (Err refusal) again refused in
        cc

    -- the odd lock is another than that of the way
    odd-next : (name : List ℕ) → IsLost files.locks whole.files.locks a.begin.0.targets name → IsNextOf beside way h whole (Lock name)
    odd-next name lost =
        let t = lost.target in
        let among : is_among (header_names a.begin.0) name ≡ true = among-targets a.begin.0.targets name ∙ lost.among in
        let text = some-there (lock_at files.locks name) (have name ∙ among) in
        let theirs : lock_at whole.files.locks name ≡ Some lost.kept.text = subst (λ (n : List ℕ). lock_at whole.files.locks n ≡ Some lost.kept.text) lost.named lost.kept.there in
        let ours : lock_at files.locks t.name ≡ Some text.0 = subst (λ (n : List ℕ). lock_at files.locks n ≡ Some text.0) (sym lost.named) text.1 in
        next-other name (ap (λ (o : Option (List ℕ)). is_some o) theirs) (λ same.
        let one : text.0 ≡ lost.kept.text =
        one-text (standing (has beside (Lock name)) h (Lock name)) text.0 lost.kept.text (lock-stands (has beside) h files.locks name text.0 stand.locks text.1)
        (subst (λ (b : Bool). standing b h (Lock name) ≡ Some lost.kept.text) same (lock-stands way h whole.files.locks name lost.kept.text whole.stand.locks theirs)) in
        not-kept files.locks t text.0 lost.lost ours (ap sha256 one ∙ lost.kept.digest))

    odd-lost : (name : List ℕ) → odd_lock a.begin.0 files.locks ≡ Some name → IsLost files.locks whole.files.locks a.begin.0.targets name
    odd-lost name odd = elim (lesser-cases (lost_lock a.begin.0 files.locks) (stray_lock a.begin.0 files.locks) name odd) [
      | inl lost ↦ lost-target files.locks whole.files.locks a.begin.0.targets name lost kept
      | inr stray ↦ absurd (cc (sym (none-stray a.begin.0 files.locks have) ∙ stray))
    ]

    refused-next : (file : InputFile) (why : InputFault) → fault_of refusal ≡ Input file why → (odd : Option (List ℕ)) → odd_lock a.begin.0 files.locks ≡ odd → IsNextOf beside way h whole file
    refused-next file why told None odd = absurd (none-odd odd)
    refused-next file why told (Some name) odd =
        let both : Err refusal ≡ Err (FilesDisagree (saved.Lock name)) =
        opens-once After-one files.requirements files.locks files.journal (Err refusal) (Err (FilesDisagree (saved.Lock name))) refused
        (refused-odd files.requirements files.locks whole.files.locks files.journal whole.history a name odd) in
        let one : refusal ≡ FilesDisagree (saved.Lock name) = cc in
        let is : Input file why ≡ Input (Lock name) Disagrees = sym told ∙ ap fault_of one in
        let same : Lock name ≡ file = cc in
        subst (IsNextOf beside way h whole) same (odd-next name (odd-lost name odd))

-- a file that isn't there is the next one
pub lacking-is_next : (beside : Beside) (file : InputFile) (h : Held) → IsLacking (has beside) file h → IsNext beside file h
lacking-is_next beside file h lacks apart way whole more = lacking-next beside way h whole more file lacks.0 lacks.1

-- a file that is refused is the next one
pub refused-is_next : (beside : Beside) (file : InputFile) (why : InputFault) (h : Held) (files : FileBytes) (refusal : Refusal) → fault_of refusal ≡ Input file why → Opens files.requirements files.locks files.journal (Err refusal)
    → AreOfJournal files.journal files.locks → StandAt (has beside) h files → IsNext beside file h
refused-is_next beside file why h files refusal told refused of_journal stand apart way whole more =
    refused-next beside way h whole more apart files stand of_journal refusal refused file why told (odd_lock (a beside way h whole more apart files stand of_journal refusal refused).begin.0 files.locks) refl
