-- What calls of a folder leave that can be completed.
use Rattle.std.proofs.Common.{◌≡◌, ◌⊎◌, ℕ, Option, Some, None, IfSome, Ok, false, refl, subst, sym, inl, inr}
use Rattle.folder.specs.Calls.{IsDone, IsSame, IsSettled}
use Rattle.folder.specs.Held.{Held}
use Rattle.folder.specs.Repairs.{IsEnding, LeftParts, finished}
use Rattle.folder.proofs.Runs.{Ran, carried, ran_on, runs_at, told_before, weaker}
use Rattle.journal.specs.Changes.{HistoryParts}
use Rattle.journal.specs.Opens.{Opens}
use Rattle.files.specs.Completed.{CanBeCompleted, IsWayBack, Stands, StaysCompletable}
use Rattle.files.specs.Places.{AllAre, AreInPlace, FileBytes}
use Rattle.files.specs.Repair.{IsRemoved}
use Rattle.files.proofs.FolderRuns.{all_settled, settled_stays, so_still}
use Rattle.files.proofs.StandingFiles.{in_place_same}

same_stays : (h k : Held) → k ≡ h → StaysCompletable h k
same_stays h k is can = subst (λ (x : Held). CanBeCompleted x) (sym is) can

module _ {F : Type 0} (held : F → Option Held) (may_leave : F → Held → Type 0) (moment : F → ℕ) (left_since : F → ℕ → Held → Type 0) (faults : F → ℕ) where
  abbrev Run : (Held → Held → Type 0) → (Held → Held → Type 0) → F → F → Type 0
  Run = Ran held may_leave moment left_since faults

  abbrev Stays : F → F → Type 0
  Stays = Run StaysCompletable StaysCompletable

  pub still_stays : (old new : F) → Run IsSame IsSame old new → Stays old new
  still_stays old new still = weaker held may_leave moment left_since faults IsSame StaysCompletable IsSame StaysCompletable old new still same_stays same_stays

  pub none_stays : (old : F) → ((c : Held) → left_since old (moment old) c → may_leave old c) → Stays old old
  none_stays old only = runs_at held may_leave moment left_since faults StaysCompletable StaysCompletable old only (λ h can. can) (λ h can. can)

  -- one run behind another
  pub stays_twice : (old mid new : F) → Stays old mid → Stays mid new → Stays old new
  stays_twice old mid new first next =
      ran_on held may_leave moment left_since faults StaysCompletable StaysCompletable StaysCompletable StaysCompletable StaysCompletable StaysCompletable old mid new first next (λ h k m a b can. b (a can)) (λ h k a. a) (λ h k m a b can. b (a can))

  -- what is left of a save is done
  pub stays_ending : (left : LeftParts) (old mid new : F) → IsSettled held may_leave old → Run IsSame IsSame old mid → Run (IsEnding left) (IsEnding left) mid new → IfSome (held old) (IsWayBack left) → Stays old new
  stays_ending left old mid new settled still ending way =
      let all = all_settled held may_leave moment left_since faults (IsWayBack left) mid (settled_stays held may_leave moment left_since faults old mid settled still) (so_still held may_leave moment left_since faults (IsWayBack left) old mid still way) in
      stays_twice old mid new (still_stays old mid still)
      (told_before held may_leave moment left_since faults (IsEnding left) (IsEnding left) StaysCompletable StaysCompletable (IsWayBack left) mid new ending all.0 all.1 (λ h k ends back can. back.stopped k ends) (λ h k ends back can. back.stopped k ends))

  -- and then the files stand for a history
  pub stands_ended : (left : LeftParts) (within : Held → Held → Type 0) (old mid new : F) → Run IsSame IsSame old mid → Run (IsDone (finished left)) within mid new → IfSome (held old) (IsWayBack left) → IfSome (held new) Stands
  stands_ended left within old mid new still ended way =
      carried (IsDone (finished left)) (IsWayBack left) Stands (λ h k is back. subst (λ (x : Held). Stands x) (sym is) back.done) (held mid) (held new) ended.follows.holds
      (so_still held may_leave moment left_since faults (IsWayBack left) old mid still way)

  -- where files stand for a history in their places, what stands beside them is removed
  pub stays_removing : (files : FileBytes) (history : HistoryParts) → Opens files.requirements files.locks files.journal (Ok history) → (old new : F) → AllAre (held old) (may_leave old) (λ h. AreInPlace h files) → Run IsRemoved IsRemoved old new
      → Stays old new
  stays_removing files history opens old new all removing =
      told_before held may_leave moment left_since faults IsRemoved IsRemoved StaysCompletable StaysCompletable (λ h. AreInPlace h files) old new removing all.0 all.1 so so
    where
      so : (h k : Held) → IsRemoved h k → AreInPlace h files → StaysCompletable h k
      so h k gone are can = (λ file. false, record { files = files; stand = in_place_same h k files gone.0 are; history = history; opens = opens; gives_way = tt })
