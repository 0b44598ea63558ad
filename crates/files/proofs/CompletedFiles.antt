-- Files with which a folder opens, as they are answered.
use Rattle.std.proofs.Common.{◌≡◌, ◌⊎◌, ◌∙◌, ◌+◌, ◌<◌, ◌≤◌, ℕ, zero, suc, Bool, true, false, List, [], ◌∷◌, Option, Some, None, Result, Ok, Err, IfErr, IfOk, IfNone, IfSome, ap, arith, inl, inr, map, refl, subst, sym, true≢false}
use Rattle.std.specs.BTreeMap.{IsOrdered}
use Rattle.std.specs.Bool.{OnFalse, OnTrue}
use Rattle.std.specs.Cmp.Lexicographic.{slice_cmp}
use Rattle.std.specs.List.{list_any}
use Rattle.std.specs.Ordering.{is_eq, nat_cmp}
use Rattle.std.specs.Prelude.{slice_get}
use Rattle.changes.proofs.OneOutcome.{After-one}
use Rattle.folder.specs.Held.{Held}
use Rattle.folder.specs.Repairs.{LeftParts}
use Rattle.inputs.specs.FileNames.{name_of}
use Rattle.inputs.specs.declared.fault.Fault.{Fault}
use Rattle.inputs.specs.declared.fault.Fault.TheVariants.{Input, OutOfMemory}
use Rattle.inputs.specs.declared.input_files.InputFault.{InputFault}
use Rattle.inputs.specs.declared.input_files.InputFile.{InputFile}
use Rattle.inputs.specs.declared.input_files.InputFile.TheVariants.{Requirements, Lock, Journal}
use Rattle.journal.specs.Changes.{HistoryParts}
use Rattle.journal.specs.Opens.{Opens}
use Rattle.journal.proofs.OpensOnce.{opens-once}
use Rattle.journal_format.specs.declared.header.Header.{Header}
use Rattle.files.specs.Beside.{FilesStandBeside, StandFor, completed_by, has, has_requirements, taken_from}
use Rattle.files.specs.Completed.{AreLocksToldApart, CanBeCompleted, Completes, GivesWay, IsBeyondRepair, IsUnless, IsWayBack, IsWayOf, LacksRequirements, NoneCompletes}
use Rattle.files.specs.NextLocks.{IsFaultOf, IsNext, NoneTakesMore, TakesMore}
use Rattle.files.specs.Places.{LocksStandAt, StandAt, bytes_read, standing}
use Rattle.files.specs.TargetLocks.{AreGone}
use Rattle.files.specs.declared.beside.Beside.{Beside}
use Rattle.files.specs.declared.saved_files.SavedFiles.{SavedFiles}
use Rattle.files.proofs.FaultyFiles.{unless-also, unless-both}
use Rattle.files.proofs.HeldFiles.{held_also}
use Rattle.files.proofs.KeptLocks.{all-kept}
use Rattle.files.proofs.NextLock.{one-by_digest}
use Rattle.files.proofs.OneInPlace.{one-text}
use Rattle.files.proofs.OtherLocks.{AreTold, HasHeader, has-header, one-header, opens-moved}
use Rattle.files.proofs.TakenNames.{names_in}
use Rattle.files.proofs.WayBack.{AreOthers, gone-others, none-others, way-back}

-- ---- what is answered of files that were opened

abbrev Answered : Type 0
Answered = Result (Option (Beside × SavedFiles × HistoryParts)) Fault

-- the answer has them
module _ (P : Beside × SavedFiles × HistoryParts → Type 0) where
  by_opened : (beside : Beside) (opened : Result (SavedFiles × HistoryParts) Fault) → IfOk opened (λ o. P (beside, o.0, o.1)) → IfOk (completed_by beside opened) (λ answer. IfSome answer P)
  by_opened beside (Ok o) so = so
  by_opened beside (Err (Input file why)) so = tt
  by_opened beside (Err fault) so = tt

  pub answered-some : (beside : Beside) (opened : Result (SavedFiles × HistoryParts) Fault) (result : Answered) → result ≡ completed_by beside opened → IfOk opened (λ o. P (beside, o.0, o.1)) → IfOk result (λ answer. IfSome answer P)
  answered-some beside opened result is so = subst (λ (r : Answered). IfOk r (λ answer. IfSome answer P)) (sym is) (by_opened beside opened so)

-- whatever was opened is so
pub of-any : {T E : Type 0} (result : Result T E) (P : Type 0) → P → IfOk result (λ o. P)
of-any (Ok o) P p = p
of-any (Err e) P p = tt

-- the answer has none, where a file was at fault
module _ (may : Type 0) (held : Option Held) (Is : InputFile → Held → Type 0) (None_so : Type 0) (so : (file : InputFile) → IsUnless may held (Is file) → None_so) where
  by_fault : (beside : Beside) (opened : Result (SavedFiles × HistoryParts) Fault) → IfErr opened (IsFaultOf may held Is) → IfOk (completed_by beside opened) (λ answer. IfNone answer None_so)
  by_fault beside (Ok o) fault = tt
  by_fault beside (Err (Input file why)) (inl memory) = absurd (let both : Input file why ≡ OutOfMemory = memory in cc)
  by_fault beside (Err (Input file why)) (inr of) =
      let both : Input file why ≡ Input of.0 of.1 = of.2 in
      let same : of.0 ≡ file = cc in
      so file (subst (λ (f : InputFile). IsUnless may held (Is f)) same of.3)
  by_fault beside (Err fault) of = tt

  pub answered-none : (beside : Beside) (opened : Result (SavedFiles × HistoryParts) Fault) (result : Answered) → result ≡ completed_by beside opened → IfErr opened (IsFaultOf may held Is) → IfOk result (λ answer. IfNone answer None_so)
  answered-none beside opened result is fault = subst (λ (r : Answered). IfOk r (λ answer. IfNone answer None_so)) (sym is) (by_fault beside opened fault)

-- the answer is no other fault than want of memory
module _ (may : Type 0) (held : Option Held) (Is : InputFile → Held → Type 0) where
  by_memory : (beside : Beside) (opened : Result (SavedFiles × HistoryParts) Fault) → IfErr opened (IsFaultOf may held Is) → IfErr (completed_by beside opened) (λ fault. fault ≡ OutOfMemory)
  by_memory beside (Ok o) fault = tt
  by_memory beside (Err (Input file why)) fault = tt
  by_memory beside (Err fault) (inl memory) = memory
  by_memory beside (Err fault) (inr of) = absurd (cc of.2)

  pub answered-memory : (beside : Beside) (opened : Result (SavedFiles × HistoryParts) Fault) (result : Answered) → result ≡ completed_by beside opened → IfErr opened (IsFaultOf may held Is) → IfErr result (λ fault. fault ≡ OutOfMemory)
  answered-memory beside opened result is fault = subst (λ (r : Answered). IfErr r (λ fault. fault ≡ OutOfMemory)) (sym is) (by_memory beside opened fault)

-- ---- whether a requirements file gives way

pub not-true : (b : Bool) (A : Type 0) → b ≡ false → OnFalse b A → A
not-true true A is so = absurd (true≢false is)
not-true false A is so = so

pub not-false : (b : Bool) (A : Type 0) → b ≡ true → OnTrue b A → A
not-false true A is so = so
not-false false A is so = absurd (true≢false (sym is))

pub gives-none : (held : Option Held) (history : HistoryParts) → IfSome held (GivesWay false history)
gives-none None history = tt
gives-none (Some h) history = tt

pub gives-found : (held : Option Held) (history : HistoryParts) (text : List ℕ) (has : Bool) → has ≡ has_requirements history.past.states text → IfSome held (λ h. standing false h Requirements ≡ Some text) → OnTrue has (IfSome held (GivesWay true history))
gives-found held history text true is there = held_also held (λ h. standing false h Requirements ≡ Some text) (GivesWay true history) (λ h stands. (text, stands, sym is)) there
gives-found held history text false is there = tt

pub gives-not : (held : Option Held) (history : HistoryParts) (text : List ℕ) (has : Bool) → has ≡ has_requirements history.past.states text → IfSome held (λ h. standing false h Requirements ≡ Some text)
    → OnFalse has (IfSome held (λ h. GivesWay true history h → ⊥))
gives-not held history text true is there = tt
gives-not held history text false is there = held_also held (λ h. standing false h Requirements ≡ Some text) (λ h. GivesWay true history h → ⊥) (λ h stands gives.
    let same : gives.0 ≡ text = one-text (standing false h Requirements) gives.0 text gives.1 stands in
    true≢false (sym gives.2 ∙ ap (has_requirements history.past.states) same ∙ sym is)) there

-- ---- one history

-- files that open with others that open, of the same requirements file and journal, stand for the same history
one-history : (h : Held) (files : SavedFiles) (beside : Beside) (history : HistoryParts) (way : InputFile → Bool) (whole : Completes way h) → AreLocksToldApart h → StandAt (has beside) h (bytes_read files) → StandFor files history
    → way Requirements ≡ beside.requirements → way Journal ≡ beside.journal → whole.history ≡ history
one-history h files beside history way whole apart stand opens requirements journal =
    let same_requirements : whole.files.requirements ≡ files.requirements.items =
    one-text (standing beside.requirements h Requirements) whole.files.requirements files.requirements.items (subst (λ (b : Bool). standing b h Requirements ≡ Some whole.files.requirements) requirements whole.stand.requirements) stand.requirements in
    let same_journal : whole.files.journal ≡ files.journal =
    one-text (standing beside.journal h Journal) whole.files.journal files.journal (subst (λ (b : Bool). standing b h Journal ≡ Some whole.files.journal) journal whole.stand.journal) stand.journal in
    let theirs : Opens files.requirements.items whole.files.locks files.journal (Ok whole.history) =
    subst (λ (r : List ℕ). Opens r whole.files.locks files.journal (Ok whole.history)) same_requirements (subst (λ (j : List ℕ). Opens whole.files.requirements whole.files.locks j (Ok whole.history)) same_journal whole.opens) in
    by files.requirements.items files.locks.entries files.journal (has-header files.requirements.items files.locks.entries files.journal history opens) (has-header files.requirements.items whole.files.locks files.journal whole.history theirs) opens stand.locks
  where
    by : (requirements : List ℕ) (locks : List (List ℕ × List ℕ)) (journal : List ℕ) → HasHeader requirements locks journal history → HasHeader requirements whole.files.locks journal whole.history → Opens requirements locks journal (Ok history)
        → LocksStandAt (has beside) h locks → whole.history ≡ history
    by requirements locks journal a b opened stands =
        let header = b.begin.0 in
        let none = subst (λ (x : Header × List ℕ). AreTold x.0 requirements locks) (one-header journal a.begin b.begin a.begins b.begins) a.told in
        let same = one-by_digest h (has beside) way locks whole.files.locks header.targets apart stands whole.stand.locks (all-kept header locks none.none) (all-kept header whole.files.locks b.told.none) in
        let again : Opens requirements locks journal (Ok whole.history) = opens-moved requirements locks whole.files.locks journal whole.history b none.none same in
        let both : Ok whole.history ≡ Ok history = opens-once After-one requirements locks journal (Ok whole.history) (Ok history) again opened in
        cc

-- where the requirements file doesn't give way, no way of this kind does
pub none-gives : (may : Type 0) (held : Option Held) (first beside : Beside) (files : SavedFiles) (history : HistoryParts) → beside.requirements ≡ first.requirements → beside.journal ≡ first.journal
    → IfSome held (λ h. StandAt (has beside) h (bytes_read files)) → StandFor files history → IfSome held (λ h. GivesWay beside.requirements history h → ⊥) → IsUnless may held (NoneTakesMore first)
none-gives may held first beside files history requirements journal stand opens stays =
    unless-both may held (λ h. StandAt (has beside) h (bytes_read files)) (λ h. GivesWay beside.requirements history h → ⊥) (NoneTakesMore first) so (inr stand) (inr stays)
  where
    so : (h : Held) → StandAt (has beside) h (bytes_read files) → (GivesWay beside.requirements history h → ⊥) → NoneTakesMore first h
    so h are not apart way whole more =
        let one = one-history h files beside history way whole apart are opens (more.requirements ∙ sym requirements) (more.journal ∙ sym journal) in
        not (subst (λ (b : Bool). GivesWay b history h) (more.requirements ∙ sym requirements) (subst (λ (x : HistoryParts). GivesWay (way Requirements) x h) one whole.gives_way))

-- ---- the way back

pub found-way : (held : Option Held) (beside : Beside) (files : SavedFiles) (history : HistoryParts) (going taken : List InputFile) → taken ≡ taken_from beside files → IsOrdered (slice_cmp nat_cmp) files.locks → AreGone history going ⊎ (going ≡ [])
    → IfSome held (λ h. StandAt (has beside) h (bytes_read files)) → StandFor files history → IfSome held (GivesWay beside.requirements history) → IfSome held (IsWayOf going taken)
found-way None beside files history going taken is rise gone stand opens gives = tt
found-way (Some h) beside files history going taken is rise gone stand opens gives =
    subst (λ (all : List InputFile). IsWayOf going all h) (sym is) (way-back beside files h history (names_in going) rise stand opens gives (others gone))
  where
    others : AreGone history going ⊎ (going ≡ []) → AreOthers files (names_in going)
    others (inl are) = gone-others files history going opens are
    others (inr none) = subst (λ (g : List InputFile). AreOthers files (names_in g)) (sym none) (none-others files)

-- what is left to do, by the names of the files
pub named-way : (held : Option Held) (going taken : List InputFile) (going_names names : List (List ℕ)) → going_names ≡ names_in going → IfSome held (FilesStandBeside taken) → IfSome held (λ h. FilesStandBeside taken h → names ≡ names_in taken)
    → IfSome held (IsWayOf going taken) → IfSome held (IsWayBack (record { going = going_names; names = names }))
named-way None going taken going_names names is stand named way = tt
named-way (Some h) going taken going_names names is stand named way =
    subst (λ (g : List (List ℕ)). IsWayBack (record { going = g; names = names }) h) (sym is) (subst (λ (n : List (List ℕ)). IsWayBack (record { going = names_in going; names = n }) h) (sym (named stand)) way)

-- ---- each of four ways

-- a folder without a requirements file in its place can't be completed
pub lacks-beyond : (h : Held) → LacksRequirements h → IsBeyondRepair h
lacks-beyond h none apart can = by (can.0 Requirements) can.1.stand.requirements can.1.gives_way
  where
    by : (b : Bool) → standing b h Requirements ≡ Some can.1.files.requirements → GivesWay b can.1.history h → ⊥
    by true is gives = cc (sym none ∙ gives.1)
    by false is gives = cc (sym none ∙ is)

-- no way takes more than a requirements file and a journal
pub none-completes : (beside : Beside) (requirements journal : Bool) (h : Held) → beside.requirements ≡ requirements → beside.locks.keys ≡ [] → beside.journal ≡ journal → NoneTakesMore beside h → NoneCompletes requirements journal h
none-completes beside requirements journal h is none is_too more apart way whole same same_too =
    more apart way whole (record {
      requirements = same ∙ sym is;
      journal = same_too ∙ sym is_too;
      locks = λ name had. absurd (true≢false (sym had ∙ ap (λ (keys : List (List ℕ)). list_any (λ other. is_eq (slice_cmp nat_cmp name other)) keys) none));
    })

-- so none completes the folder, where none of these kinds does
pub none-of_four : (h : Held) → NoneCompletes false true h → NoneCompletes false false h → NoneCompletes true true h → NoneCompletes true false h → IsBeyondRepair h
none-of_four h ft ff tt_ tf apart can = by (can.0 Requirements) (can.0 Journal) refl refl
  where
    by : (a b : Bool) → can.0 Requirements ≡ a → can.0 Journal ≡ b → ⊥
    by false true is is_too = ft apart can.0 can.1 is is_too
    by false false is is_too = ff apart can.0 can.1 is is_too
    by true true is is_too = tt_ apart can.0 can.1 is is_too
    by true false is is_too = tf apart can.0 can.1 is is_too

-- the four, in the order in which they are tried
abbrev pub ways : List (Bool × Bool)
ways = (false, true) ∷ (false, false) ∷ (true, true) ∷ (true, false) ∷ []

module _ (may : Type 0) (held : Option Held) where
  -- those so far don't complete the folder
  abbrev pub AreNone : ℕ → Type 0
  AreNone tried = (k : ℕ) (way : Bool × Bool) → k < tried → slice_get ways k ≡ Some way → IsUnless may held (NoneCompletes way.0 way.1)

  pub none-more : {X : Type 0} (tried : ℕ) (found : Option X) (beside : Beside) (p : Bool × Bool) → ((way : Bool × Bool) → slice_get ways tried ≡ Some way → p ≡ way) → beside.requirements ≡ p.0 → beside.locks.keys ≡ [] → beside.journal ≡ p.1
      → found ≡ None → IfNone found (IsUnless may held (NoneTakesMore beside)) → AreNone tried → AreNone (tried + 1)
  none-more tried found beside p here requirements locks journal is none before k way less at = elim (either-or k tried (omega arith)) [
    | inl same ↦
        let one : p ≡ way = here way (subst (λ (n : ℕ). slice_get ways n ≡ Some way) same at) in
        let whole : IsUnless may held (NoneTakesMore beside) = subst (λ (o : Option _). IfNone o (IsUnless may held (NoneTakesMore beside))) is none in
        unless-also may held (NoneTakesMore beside) (NoneCompletes way.0 way.1)
        (λ h. none-completes beside way.0 way.1 h (requirements ∙ ap (λ (w : Bool × Bool). w.0) one) locks (journal ∙ ap (λ (w : Bool × Bool). w.1) one)) whole
    | inr lower ↦ before k way lower at
  ]
    where
      either-or : (a b : ℕ) → a < b + 1 → (a ≡ b) ⊎ (a < b)
      either-or zero zero less = inl refl
      either-or zero (suc b) less = inr (omega arith)
      either-or (suc a) zero less = absurd (omega arith)
      either-or (suc a) (suc b) less = elim (either-or a b (omega arith)) [ inl same ↦ inl (ap suc same) | inr lower ↦ inr (omega arith) ]

  pub none-at_all : (tried : ℕ) → 4 ≤ tried → AreNone tried → IsUnless may held IsBeyondRepair
  none-at_all tried past none =
      unless-both may held (λ h. NoneCompletes false true h × NoneCompletes false false h) (λ h. NoneCompletes true true h × NoneCompletes true false h) IsBeyondRepair (λ h a b. none-of_four h a.0 a.1 b.0 b.1)
      (unless-both may held (NoneCompletes false true) (NoneCompletes false false) (λ h. NoneCompletes false true h × NoneCompletes false false h) (λ h a b. (a, b)) (none 0 (false, true) (omega arith) refl) (none 1 (false, false) (omega arith) refl))
      (unless-both may held (NoneCompletes true true) (NoneCompletes true false) (λ h. NoneCompletes true true h × NoneCompletes true false h) (λ h a b. (a, b)) (none 2 (true, true) (omega arith) refl) (none 3 (true, false) (omega arith) refl))

-- a folder whose requirements file isn't in its place
pub lacks-fault : (may : Type 0) (held : Option Held) (fault : Fault) → (fault ≡ OutOfMemory) ⊎ IsUnless may held LacksRequirements → (fault ≡ OutOfMemory) ⊎ IsUnless may held IsBeyondRepair
lacks-fault may held fault (inl memory) = inl memory
lacks-fault may held fault (inr lacks) = inr (unless-also may held LacksRequirements IsBeyondRepair lacks-beyond lacks)
