-- A call that reads, does its command, saves and answers.
use Rattle.std.proofs.Common.{◌≡◌, ◌⊎◌, ℕ, Bool, true, false, List, Option, Result, Ok, Err, IfErr, IsErrAnd, OnOk, refl, sym, subst, ap, inl, inr}
use Rattle.commands.specs.Replies.{is_accepted, text_of_reply}
use Rattle.commands.specs.declared.batch.StreamFault.{StreamFault}
use Rattle.commands.specs.declared.batch.StreamFault.TheVariants as streams
use Rattle.files.specs.Places.{AllAre, AreInPlace, FileBytes, IsUnsaved, bytes_read}
use Rattle.files.specs.Repair.{IsRepairOf}
use Rattle.files.specs.Saving.{IsBeingSavedOver, IsSavedOver}
use Rattle.files.specs.declared.saved_files.SavedFiles.{SavedFiles}
use Rattle.files.proofs.FolderRuns.{repaired_twice, repaired_where}
use Rattle.folder.specs.Calls.{IsSame}
use Rattle.folder.specs.Held.{Held}
use Rattle.folder.proofs.Runs.{Ran, ran_on, runs_at, told_behind, weaker}
use Rattle.inputs.specs.declared.fault.Fault.{Fault}
use Rattle.journal.specs.Changes.{HistoryParts}
use Rattle.journal.specs.Commands.{Asked}
use Rattle.journal.specs.Past.{Past}
use Rattle.journal.specs.declared.commands.Reply.{Reply}
use Rattle.journal.specs.declared.commands.Reply.TheVariants.{Done, Same, Refused}
use Rattle.stops.specs.Stops.{stop_of}
use Rattle.stops.specs.declared.stop.Stop.{Stop}
use Rattle.stops.specs.declared.stop.Stop.TheVariants as stops
use Rattle.saves.specs.Applied.{GoesOn}
use Rattle.saves.specs.Called.{Called, IsFaultOfSaving, IsSavedBy, LeadsTo, LeavesFor, MayBeLeft}
use Rattle.saves.specs.Tied.Applying.{IsApplied, IsApplying, IsSavingFor}

-- ---- faults

-- at an error nothing is told of a value
pub not_ok : {T E : Type 0} (result : Result T E) (P : E → Type 0) (A : Type 0) → IsErrAnd result P → OnOk result A
not_ok (Ok x) P A is = absurd is
not_ok (Err e) P A is = tt

pub told_of : {T E : Type 0} (result : Result T E) (P Q : E → Type 0) → IsErrAnd result P → ((e : E) → P e → Q e) → IfErr result Q
told_of (Ok x) P Q is more = tt
told_of (Err e) P Q is more = more e is

-- or else this
pub or_else : {T E : Type 0} (result : Result T E) (P : E → Type 0) (A : Type 0) → A → IfErr result (λ e. P e ⊎ A)
or_else (Ok x) P A a = tt
or_else (Err e) P A a = inr a

pub fault_of_saving : (fault : Fault) → IsUnsaved fault → IsFaultOfSaving (stop_of fault)
fault_of_saving fault (inl memory) = inl (ap stop_of memory)
fault_of_saving fault (inr file) = inr (inr (file.0, ap stop_of file.1))

pub fault_of_print : (fault : StreamFault) → fault ≡ streams.Write → IsFaultOfSaving (stops.Fault fault)
fault_of_print fault is = inr (inl (ap stops.Fault is))

-- an accepted reply has a place
pub accepted : (reply : Reply) → is_accepted reply ≡ true → (place : ℕ) × (reply ≡ Done place)
accepted (Done place) is = (place, refl)
accepted Same is = absurd (cc is)
accepted (Refused refusal) is = absurd (cc is)

module _ {F : Type 0} (held : F → Option Held) (may_leave : F → Held → Type 0) (moment : F → ℕ) (left_since : F → ℕ → Held → Type 0) (faults : F → ℕ) where
  abbrev Run : (Held → Held → Type 0) → (Held → Held → Type 0) → F → F → Type 0
  Run = Ran held may_leave moment left_since faults

  -- ---- the save of a reply

  module _ (is_saved : Bool) (files : SavedFiles) (after : HistoryParts) where
    leaves_saved : is_saved ≡ true → (h k : Held) → IsSavedOver files after h k → LeavesFor is_saved files after h k
    leaves_saved is h k saved = subst (λ (b : Bool). LeavesFor b files after h k) (sym is) saved

    leaves_same : is_saved ≡ false → (h k : Held) → k ≡ h → LeavesFor is_saved files after h k
    leaves_same is h k same = subst (λ (b : Bool). LeavesFor b files after h k) (sym is) same

    saving : is_saved ≡ true → (h k : Held) → IsBeingSavedOver files after h k → IsSavingFor is_saved files after h k
    saving is h k (inl same) = inl same
    saving is h k (inr so_far) = inr (is, so_far)

    pub was_saved : is_saved ≡ true → (old new : F) → Run (IsSavedOver files after) (IsBeingSavedOver files after) old new → Run (LeavesFor is_saved files after) (IsSavingFor is_saved files after) old new
    was_saved is old new ran = weaker held may_leave moment left_since faults (IsSavedOver files after) (LeavesFor is_saved files after) (IsBeingSavedOver files after) (IsSavingFor is_saved files after) old new ran (leaves_saved is) (saving is)

    pub was_being_saved : is_saved ≡ true → (old new : F) → Run (IsBeingSavedOver files after) (IsBeingSavedOver files after) old new → Run (IsSavingFor is_saved files after) (IsSavingFor is_saved files after) old new
    was_being_saved is old new ran = weaker held may_leave moment left_since faults (IsBeingSavedOver files after) (IsSavingFor is_saved files after) (IsBeingSavedOver files after) (IsSavingFor is_saved files after) old new ran (saving is) (saving is)

    pub was_left : is_saved ≡ false → (old : F) → ((c : Held) → left_since old (moment old) c → may_leave old c) → Run (LeavesFor is_saved files after) (IsSavingFor is_saved files after) old old
    was_left is old only = runs_at held may_leave moment left_since faults (LeavesFor is_saved files after) (IsSavingFor is_saved files after) old only (λ h. leaves_same is h h refl) (λ h. inl refl)

    pub nothing_is_being_saved : (old : F) → ((c : Held) → left_since old (moment old) c → may_leave old c) → Run (IsSavingFor is_saved files after) (IsSavingFor is_saved files after) old old
    nothing_is_being_saved old only = runs_at held may_leave moment left_since faults (IsSavingFor is_saved files after) (IsSavingFor is_saved files after) old only (λ h. inl refl) (λ h. inl refl)

  -- ---- one command

  module _ (only_if_needed : Bool) (asked : Asked) (files : SavedFiles) (past : Past) where
    pub applying : (reply : Reply) (after : HistoryParts) → GoesOn only_if_needed past asked after.past reply → (old new : F) → Run (IsSavingFor (is_accepted reply) files after) (IsSavingFor (is_accepted reply) files after) old new
        → Run (IsApplying only_if_needed asked files past) (IsApplying only_if_needed asked files past) old new
    applying reply after goes old new ran =
        weaker held may_leave moment left_since faults (IsSavingFor (is_accepted reply) files after) (IsApplying only_if_needed asked files past) (IsSavingFor (is_accepted reply) files after) (IsApplying only_if_needed asked files past) old new ran so so
      where
        so : (h k : Held) → IsSavingFor (is_accepted reply) files after h k → IsApplying only_if_needed asked files past h k
        so h k (inl same) = inl same
        so h k (inr saving) = let done = accepted reply saving.0 in inr (after, done.0, subst (λ (r : Reply). GoesOn only_if_needed past asked after.past r) done.1 goes, saving.1)

    pub applied : {T E : Type 0} (result : Result T E) (reply : Reply) (after : HistoryParts) → GoesOn only_if_needed past asked after.past reply → (says : List ℕ → Type 0) (text : List ℕ) → text ≡ text_of_reply reply → (old new : F)
        → OnOk result (says text) → OnOk result (Run (LeavesFor (is_accepted reply) files after) (IsSavingFor (is_accepted reply) files after) old new)
        → OnOk result (IsApplied held may_leave moment left_since faults only_if_needed asked files past says old new)
    applied (Ok x) reply after goes says text is old new said ran = record { after = after; reply = reply; goes = goes; said = subst says is said; ran = ran }
    applied (Err e) reply after goes says text is old new said ran = tt

    pub not_applying : (old : F) → ((c : Held) → left_since old (moment old) c → may_leave old c) → Run (IsApplying only_if_needed asked files past) (IsApplying only_if_needed asked files past) old old
    not_applying old only = runs_at held may_leave moment left_since faults (IsApplying only_if_needed asked files past) (IsApplying only_if_needed asked files past) old only (λ h. inl refl) (λ h. inl refl)

-- ---- behind a repair, where such files stand

module _ {F : Type 0} (held : F → Option Held) (may_leave : F → Held → Type 0) (moment : F → ℕ) (left_since : F → ℕ → Held → Type 0) (faults : F → ℕ) (Repairs : Held → Held → Type 0) (Stand : Held → FileBytes → Type 0) where
  abbrev After : (Held → Held → Type 0) → (Held → Held → Type 0) → F → F → Type 0
  After = Ran held may_leave moment left_since faults

  module _ (is_saved : Bool) (files : SavedFiles) (after : HistoryParts) where
    abbrev Known : Held → Held → Type 0
    Known h k = Repairs h k × Stand k (bytes_read files)

    known_places : (old mid : F) → After Repairs Repairs old mid → AllAre (held mid) (may_leave mid) (λ h. Stand h (bytes_read files)) → After Known Repairs old mid
    known_places old mid repaired all = told_behind held may_leave moment left_since faults Repairs Repairs Known (λ h. Stand h (bytes_read files)) old mid repaired all.0 all.1 (λ h k r p. (r, p))

    module _ (Leads : SavedFiles → HistoryParts → Type 0) (leads : is_saved ≡ true → Leads files after) where
      comes : (h k m : Held) → Known h k → IsSavingFor is_saved files after k m → MayBeLeft Repairs Stand Leads h m
      comes h k m known (inl same) = inl (subst (λ (x : Held). Repairs h x) (sym same) known.0)
      comes h k m known (inr so_far) = inr (files, after, leads so_far.0, record { repaired = k; repair = known.0; stand = known.1; made = so_far.1 })

      pub led : (old mid new : F) → After Repairs Repairs old mid → AllAre (held mid) (may_leave mid) (λ h. Stand h (bytes_read files))
          → After (LeavesFor is_saved files after) (IsSavingFor is_saved files after) mid new → After (LeadsTo Repairs Stand files (LeavesFor is_saved files after)) (MayBeLeft Repairs Stand Leads) old new
      led old mid new repaired all left =
          ran_on held may_leave moment left_since faults Known (LeavesFor is_saved files after) (LeadsTo Repairs Stand files (LeavesFor is_saved files after)) Repairs (IsSavingFor is_saved files after) (MayBeLeft Repairs Stand Leads) old mid new (known_places old mid repaired all) left
          (λ h k m known leaves. record { repaired = k; repair = known.0; stand = known.1; made = leaves }) (λ h k r. inl r) comes

      pub is_led : (old mid new : F) → After Repairs Repairs old mid → AllAre (held mid) (may_leave mid) (λ h. Stand h (bytes_read files))
          → After (IsSavingFor is_saved files after) (IsSavingFor is_saved files after) mid new → After (MayBeLeft Repairs Stand Leads) (MayBeLeft Repairs Stand Leads) old new
      is_led old mid new repaired all left =
          ran_on held may_leave moment left_since faults Known (IsSavingFor is_saved files after) (MayBeLeft Repairs Stand Leads) Repairs (IsSavingFor is_saved files after) (MayBeLeft Repairs Stand Leads) old mid new (known_places old mid repaired all) left
          comes (λ h k r. inl r) comes

  -- a repair alone
  pub only_left : (Leads : SavedFiles → HistoryParts → Type 0) (old new : F) → After Repairs Repairs old new → After (MayBeLeft Repairs Stand Leads) (MayBeLeft Repairs Stand Leads) old new
  only_left Leads old new ran = weaker held may_leave moment left_since faults Repairs (MayBeLeft Repairs Stand Leads) Repairs (MayBeLeft Repairs Stand Leads) old new ran (λ h k r. inl r) (λ h k r. inl r)

  -- what is done, and then saved
  module _ {A : Type 0} (is_saved : A → Bool) (does : SavedFiles → HistoryParts → A → Type 0) (files : SavedFiles) (after : HistoryParts) (answer : A) (done : does files after answer) where
    leads_so : is_saved answer ≡ true → IsSavedBy is_saved does files after
    leads_so is = (answer, is, done)

    pub answers : (says : A → Type 0) → says answer → (old mid new : F) → After Repairs Repairs old mid → AllAre (held mid) (may_leave mid) (λ h. Stand h (bytes_read files))
        → After (LeavesFor (is_saved answer) files after) (IsSavingFor (is_saved answer) files after) mid new → Called held may_leave moment left_since faults Repairs Stand is_saved does says old new
    answers says said old mid new repaired all ran = record {
      files = files;
      after = after;
      answer = answer;
      done = done;
      said = said;
      ran = led (is_saved answer) files after (IsSavedBy is_saved does) leads_so old mid new repaired all ran;
    }

    pub is_answering : (old mid new : F) → After Repairs Repairs old mid → AllAre (held mid) (may_leave mid) (λ h. Stand h (bytes_read files))
        → After (IsSavingFor (is_saved answer) files after) (IsSavingFor (is_saved answer) files after) mid new
        → After (MayBeLeft Repairs Stand (IsSavedBy is_saved does)) (MayBeLeft Repairs Stand (IsSavedBy is_saved does)) old new
    is_answering old mid new repaired all ran = is_led (is_saved answer) files after (IsSavedBy is_saved does) leads_so old mid new repaired all ran

-- ---- where files may give way or not

module _ {F : Type 0} (held : F → Option Held) (may_leave : F → Held → Type 0) (moment : F → ℕ) (left_since : F → ℕ → Held → Type 0) (faults : F → ℕ) (may : Type 0) where
  abbrev R : (Held → Held → Type 0) → (Held → Held → Type 0) → F → F → Type 0
  R = Ran held may_leave moment left_since faults

  abbrev Repair : Held → Held → Type 0
  Repair = IsRepairOf may

  -- files are opened behind a repair, which give way nowhere
  pub then_opened : (old mid new : F) → R Repair Repair old mid → R (IsRepairOf ⊥) (IsRepairOf ⊥) mid new → R Repair Repair old new
  then_opened old mid new first next =
      repaired_twice held may_leave moment left_since faults may old mid new first (repaired_where held may_leave moment left_since faults ⊥ may (λ no never. never) mid new next)

  pub only_repaired : (Leads : SavedFiles → HistoryParts → Type 0) (old new : F) → R Repair Repair old new → R (MayBeLeft Repair AreInPlace Leads) (MayBeLeft Repair AreInPlace Leads) old new
  only_repaired Leads old new ran = only_left held may_leave moment left_since faults Repair AreInPlace Leads old new ran

  -- nothing changed behind a repair
  repaired_still : (old mid new : F) → R Repair Repair old mid → R IsSame IsSame mid new → R Repair Repair old new
  repaired_still old mid new ran still =
      ran_on held may_leave moment left_since faults Repair IsSame Repair Repair IsSame Repair old mid new ran still
      (λ h k m r is. subst (λ (x : Held). Repair h x) (sym is) r) (λ h k r. r) (λ h k m r is. subst (λ (x : Held). Repair h x) (sym is) r)

  -- one command, behind the repair of its files
  module _ (only_if_needed : Bool) (asked : Asked) (files : SavedFiles) (past : Past) (does : SavedFiles → HistoryParts → Reply → Type 0) (does_so : (after : HistoryParts) (reply : Reply) → GoesOn only_if_needed past asked after.past reply → does files after reply) where
    pub called : (says : List ℕ → Type 0) (old mid new : F) → R Repair Repair old mid → AllAre (held mid) (may_leave mid) (λ h. AreInPlace h (bytes_read files))
        → IsApplied held may_leave moment left_since faults only_if_needed asked files past says mid new → Called held may_leave moment left_since faults Repair AreInPlace is_accepted does (λ reply. says (text_of_reply reply)) old new
    called says old mid new repaired all applied =
        answers held may_leave moment left_since faults Repair AreInPlace is_accepted does files applied.after applied.reply (does_so applied.after applied.reply applied.goes) (λ reply. says (text_of_reply reply)) applied.said old mid new repaired all applied.ran

    pub calling : (old mid new : F) → R Repair Repair old mid → AllAre (held mid) (may_leave mid) (λ h. AreInPlace h (bytes_read files))
        → R (IsApplying only_if_needed asked files past) (IsApplying only_if_needed asked files past) mid new → R (MayBeLeft Repair AreInPlace (IsSavedBy is_accepted does)) (MayBeLeft Repair AreInPlace (IsSavedBy is_accepted does)) old new
    calling old mid new repaired all ran =
        ran_on held may_leave moment left_since faults Kept (IsApplying only_if_needed asked files past) (MayBeLeft Repair AreInPlace (IsSavedBy is_accepted does)) Repair (IsApplying only_if_needed asked files past) (MayBeLeft Repair AreInPlace (IsSavedBy is_accepted does)) old mid new
        (told_behind held may_leave moment left_since faults Repair Repair Kept (λ h. AreInPlace h (bytes_read files)) old mid repaired all.0 all.1 (λ h k r p. (r, p))) ran comes_so (λ h k r. inl r) comes_so
      where
        Kept : Held → Held → Type 0
        Kept h k = Repair h k × AreInPlace k (bytes_read files)

        comes_so : (h k m : Held) → Kept h k → IsApplying only_if_needed asked files past k m → MayBeLeft Repair AreInPlace (IsSavedBy is_accepted does) h m
        comes_so h k m kept (inl same) = inl (subst (λ (x : Held). Repair h x) (sym same) kept.0)
        comes_so h k m kept (inr so_far) =
            inr (files, so_far.0, (Done so_far.1, refl, does_so so_far.0 (Done so_far.1) so_far.2), record { repaired = k; repair = kept.0; stand = kept.1; made = so_far.3 })

  -- a command that is done, and then saved
  module _ (does : SavedFiles → HistoryParts → Reply → Type 0) (files : SavedFiles) (after : HistoryParts) (reply : Reply) (done : does files after reply) where
    pub answered : {T E : Type 0} (result : Result T E) (says : List ℕ → Type 0) (text : List ℕ) → text ≡ text_of_reply reply → (old mid new : F) → R Repair Repair old mid → AllAre (held mid) (may_leave mid) (λ h. AreInPlace h (bytes_read files))
        → OnOk result (says text) → OnOk result (R (LeavesFor (is_accepted reply) files after) (IsSavingFor (is_accepted reply) files after) mid new)
        → OnOk result (Called held may_leave moment left_since faults Repair AreInPlace is_accepted does (λ r. says (text_of_reply r)) old new)
    answered (Ok x) says text is old mid new repaired all said ran =
        answers held may_leave moment left_since faults Repair AreInPlace is_accepted does files after reply done (λ r. says (text_of_reply r)) (subst says is said) old mid new repaired all ran
    answered (Err e) says text is old mid new repaired all said ran = tt

    pub answering : (old mid new : F) → R Repair Repair old mid → AllAre (held mid) (may_leave mid) (λ h. AreInPlace h (bytes_read files))
        → R (IsSavingFor (is_accepted reply) files after) (IsSavingFor (is_accepted reply) files after) mid new
        → R (MayBeLeft Repair AreInPlace (IsSavedBy is_accepted does)) (MayBeLeft Repair AreInPlace (IsSavedBy is_accepted does)) old new
    answering old mid new repaired all ran = is_answering held may_leave moment left_since faults Repair AreInPlace is_accepted does files after reply done old mid new repaired all ran

  -- a call that stops behind the repair has saved nothing, or tells a fault of saving
  pub stopped_behind : {T : Type 0} (result : Result T Stop) (old mid new : F) → R Repair Repair old mid → IfErr result (λ stop. IsFaultOfSaving stop ⊎ R IsSame IsSame mid new) → IfErr result (λ stop. IsFaultOfSaving stop ⊎ R Repair Repair old new)
  stopped_behind (Ok x) old mid new repaired stopped = tt
  stopped_behind (Err stop) old mid new repaired (inl fault) = inl fault
  stopped_behind (Err stop) old mid new repaired (inr still) = inr (repaired_still old mid new repaired still)
