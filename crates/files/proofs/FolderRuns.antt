-- What calls of a folder do one after another, and what is so of all that may be left.
use Rattle.std.proofs.Common.{◌≡◌, ◌⊎◌, ◌≤◌, ℕ, List, Option, Some, None, Result, Ok, Err, IfOk, IfErr, IfSome, OnOk, refl, sym, subst, ap, ◌∙◌, inl, inr}
use Rattle.folder.specs.Calls.{Follows, GoTogether, IsDone, IsSame, IsSettled}
use Rattle.folder.specs.Held.{Files, Held, IsCleared}
use Rattle.folder.specs.Repairs.{HasSamePlaces, IsEnding, IsMoveOf, LeftParts}
use Rattle.folder.proofs.RepairRuns.{clearing_moves, moves_still, moves_twice, repair_moves, settled_done}
use Rattle.folder.proofs.Runs.{Ran, ran_on, runs_at, told_before, weaker}
use Rattle.journal.specs.Changes.{HistoryParts}
use Rattle.files.specs.Places.{AllAre, AreInPlace, FileBytes, StandsFor}
use Rattle.files.specs.Repair.{IsRemoved, IsRepairOf, NoneStands}
use Rattle.files.proofs.StandingFiles.{in_place_same}

-- ---- results

pub on_ok : {T E : Type 0} (result : Result T E) (A : Type 0) → A → OnOk result A
on_ok (Ok x) A a = a
on_ok (Err e) A a = tt

pub on_ok_map : {T E : Type 0} (result : Result T E) (A B : Type 0) → OnOk result A → (A → B) → OnOk result B
on_ok_map (Ok x) A B a more = more a
on_ok_map (Err e) A B a more = tt

pub if_ok : {T E : Type 0} (result : Result T E) (P Q : T → Type 0) → IfOk result P → ((x : T) → P x → Q x) → IfOk result Q
if_ok (Ok x) P Q p more = more x p
if_ok (Err e) P Q p more = tt

pub if_err : {T E : Type 0} (result : Result T E) (P Q : E → Type 0) → IfErr result P → ((e : E) → P e → Q e) → IfErr result Q
if_err (Ok x) P Q p more = tt
if_err (Err e) P Q p more = more e p

-- ---- what a repair makes of what is held

removed_still : (h k : Held) → k ≡ h → IsRemoved h k
removed_still h k is = (ap (λ (x : Held). x.placed) is, moves_still h k is)

still_stands : (h k : Held) (history : HistoryParts) → HasSamePlaces h k → StandsFor h history → StandsFor k history
still_stands h k history same stands = record { files = stands.files; places = in_place_same h k stands.files same stands.places; opens = stands.opens }

module _ (may : Type 0) where
  pub repair_none : (h : Held) → IsRepairOf may h h
  repair_none h = record { moves = moves_still h h refl; stays = λ no history stands. refl }

  pub repair_removing : (h k : Held) → IsRemoved h k → IsRepairOf may h k
  repair_removing h k gone = record { moves = gone.1; stays = λ no history stands. gone.0 }

  pub repair_may : may → (h k : Held) → IsMoveOf h k → IsRepairOf may h k
  repair_may so h k moves = record { moves = moves; stays = λ no history stands. absurd (no so) }

  pub repair_of_none : (h k : Held) → IsMoveOf h k → NoneStands h → IsRepairOf may h k
  repair_of_none h k moves none = record { moves = moves; stays = λ no history stands. absurd (none history stands) }

  pub repair_twice : (h k m : Held) → IsRepairOf may h k → IsRepairOf may k m → IsRepairOf may h m
  repair_twice h k m first next = record {
    moves = moves_twice h k m first.moves next.moves;
    stays = λ no history stands. let same = first.stays no history stands in next.stays no history (still_stands h k history same stands) ∙ same;
  }

pub repair_where : (may may_also : Type 0) → ((may_also → ⊥) → may → ⊥) → (h k : Held) → IsRepairOf may h k → IsRepairOf may_also h k
repair_where may may_also less h k repair = record { moves = repair.moves; stays = λ no. repair.stays (less no) }

-- ---- settled folders

some_is : (a b : Held) → Some a ≡ Some b → a ≡ b
some_is a b is = ap (λ (o : Option Held). out o) is
  where
    out : Option Held → Held
    out None = a
    out (Some x) = x

at_some : (o : Option Held) (P : Held → Type 0) (d : Held) → o ≡ Some d → IfSome o P → P d
at_some None P d is holds = absurd (cc is)
at_some (Some x) P d is holds = subst P (some_is x d is) holds

still_so : (P : Held → Type 0) (a b : Option Held) → GoTogether IsSame a b → IfSome a P → IfSome b P
still_so P None None goes p = tt
still_so P None (Some y) goes p = absurd goes
still_so P (Some x) None goes p = absurd goes
still_so P (Some x) (Some y) goes p = subst P (sym goes) p

with_places : (P : Held → Type 0) → ((h k : Held) → HasSamePlaces h k → P h → P k) → (a b : Option Held) → GoTogether IsRemoved a b → IfSome a P → IfSome b P
with_places P same None None goes p = tt
with_places P same None (Some y) goes p = absurd goes
with_places P same (Some x) None goes p = absurd goes
with_places P same (Some x) (Some y) goes p = same x y goes.0 p

module _ {F : Type 0} (held : F → Option Held) (may_leave : F → Held → Type 0) (moment : F → ℕ) (left_since : F → ℕ → Held → Type 0) (faults : F → ℕ) where
  abbrev Run : (Held → Held → Type 0) → (Held → Held → Type 0) → F → F → Type 0
  Run = Ran held may_leave moment left_since faults

  -- what is so of what a settled folder holds is so of each thing that a stop may leave
  pub all_settled : (P : Held → Type 0) (folder : F) → IsSettled held may_leave folder → IfSome (held folder) P → AllAre (held folder) (may_leave folder) P
  all_settled P folder settled now = (now, λ c left. at_some (held folder) P c (settled c left) now)

  pub settled_stays : (old new : F) → IsSettled held may_leave old → Run IsSame IsSame old new → IsSettled held may_leave new
  settled_stays old new settled still = settled_done held may_leave (λ (h : Held). h) old new settled still.follows

  pub settled_ran : (f : Held → Held) (within : Held → Held → Type 0) (old new : F) → IsSettled held may_leave old → Run (IsDone f) within old new → IsSettled held may_leave new
  settled_ran f within old new settled ran = settled_done held may_leave f old new settled ran.follows

  pub so_still : (P : Held → Type 0) (old new : F) → Run IsSame IsSame old new → IfSome (held old) P → IfSome (held new) P
  so_still P old new still p = still_so P (held old) (held new) still.follows.holds p

  -- what rests on places alone stays so where no place changes
  pub all_same : (P : Held → Type 0) → ((h k : Held) → HasSamePlaces h k → P h → P k) → (old new : F) → Run IsRemoved IsRemoved old new → AllAre (held old) (may_leave old) P → AllAre (held new) (may_leave new) P
  all_same P same old new ran all = (
    with_places P same (held old) (held new) ran.follows.holds all.0,
    λ c left. let a = ran.follows.leaves c left in same a.0 c a.2.0 (all.1 a.0 a.1),
  )

  -- so files in their places stay in them
  pub all_in_place : (files : FileBytes) (old new : F) → Run IsRemoved IsRemoved old new → AllAre (held old) (may_leave old) (λ h. AreInPlace h files) → AllAre (held new) (may_leave new) (λ h. AreInPlace h files)
  all_in_place files old new ran all = all_same (λ h. AreInPlace h files) (λ h k same are. in_place_same h k files same are) old new ran all

  pub all_still : (P : Held → Type 0) (old new : F) → Run IsSame IsSame old new → AllAre (held old) (may_leave old) P → AllAre (held new) (may_leave new) P
  all_still P old new still all = (
    still_so P (held old) (held new) still.follows.holds all.0,
    λ c left. let a = still.follows.leaves c left in subst P (sym a.2) (all.1 a.0 a.1),
  )

  pub all_less : (P Q : Held → Type 0) → ((h : Held) → P h → Q h) → (folder : F) → AllAre (held folder) (may_leave folder) P → AllAre (held folder) (may_leave folder) Q
  all_less P Q less folder all = (so (held folder) all.0, λ c left. less c (all.1 c left))
    where
      so : (o : Option Held) → IfSome o P → IfSome o Q
      so None p = tt
      so (Some h) p = less h p

  -- ---- moves and repairs

  pub none_moved : (old : F) → ((c : Held) → left_since old (moment old) c → may_leave old c) → Run IsMoveOf IsMoveOf old old
  none_moved old only = runs_at held may_leave moment left_since faults IsMoveOf IsMoveOf old only (λ h. moves_still h h refl) (λ h. moves_still h h refl)

  pub still_moved : (old new : F) → Run IsSame IsSame old new → Run IsMoveOf IsMoveOf old new
  still_moved old new still = weaker held may_leave moment left_since faults IsSame IsMoveOf IsSame IsMoveOf old new still moves_still moves_still

  -- what is left of a save is done, and then nothing more
  pub moved_by : (left : LeftParts) (old mid new : F) → Run IsSame IsSame old mid → Run (IsEnding left) (IsEnding left) mid new → Run IsMoveOf IsMoveOf old new
  moved_by left old mid new still ending =
      ran_on held may_leave moment left_since faults IsSame (IsEnding left) IsMoveOf IsSame (IsEnding left) IsMoveOf old mid new still ending so moves_still so
    where
      so : (h k m : Held) → k ≡ h → IsEnding left k m → IsMoveOf h m
      so h k m is ends = subst (λ (x : Held). IsMoveOf x m) is (repair_moves left k m ends)

  pub moved_then : (old mid new : F) → Run IsMoveOf IsMoveOf old mid → Run IsSame IsSame mid new → Run IsMoveOf IsMoveOf old new
  moved_then old mid new moved still =
      ran_on held may_leave moment left_since faults IsMoveOf IsSame IsMoveOf IsMoveOf IsSame IsMoveOf old mid new moved still so (λ h k m. m) so
    where
      so : (h k m : Held) → IsMoveOf h k → m ≡ k → IsMoveOf h m
      so h k m moves is = subst (λ (x : Held). IsMoveOf h x) (sym is) moves

  -- what is cleared from beside the places, where nothing was changed before
  pub cleared_behind : (names : List (List ℕ)) (old mid new : F) → Run IsSame IsSame old mid → Run (IsCleared names) (IsCleared names) mid new → Run IsRemoved IsRemoved old new
  cleared_behind names old mid new still ran =
      ran_on held may_leave moment left_since faults IsSame (IsCleared names) IsRemoved IsSame (IsCleared names) IsRemoved old mid new still ran so removed_still so
    where
      so : (h k m : Held) → k ≡ h → IsCleared names k m → IsRemoved h m
      so h k m is clear = subst (λ (x : Held). IsRemoved x m) is (clear.placed, clearing_moves names k m clear)

  pub removed_same : (old new : F) → Run IsSame IsSame old new → Run IsRemoved IsRemoved old new
  removed_same old new still = weaker held may_leave moment left_since faults IsSame IsRemoved IsSame IsRemoved old new still removed_still removed_still

  pub none_removed : (old : F) → ((c : Held) → left_since old (moment old) c → may_leave old c) → Run IsRemoved IsRemoved old old
  none_removed old only = runs_at held may_leave moment left_since faults IsRemoved IsRemoved old only (λ h. removed_still h h refl) (λ h. removed_still h h refl)

  -- ---- repairs

  module _ (may : Type 0) where
    pub none_repaired : (old : F) → ((c : Held) → left_since old (moment old) c → may_leave old c) → Run (IsRepairOf may) (IsRepairOf may) old old
    none_repaired old only = runs_at held may_leave moment left_since faults (IsRepairOf may) (IsRepairOf may) old only (repair_none may) (repair_none may)

    -- nothing but what stood beside the places is removed
    pub repaired_removing : (old new : F) → Run IsRemoved IsRemoved old new → Run (IsRepairOf may) (IsRepairOf may) old new
    repaired_removing old new ran = weaker held may_leave moment left_since faults IsRemoved (IsRepairOf may) IsRemoved (IsRepairOf may) old new ran (repair_removing may) (repair_removing may)

    -- files are moved, where a read may fail or those in the places stand for no history
    pub repaired_moving : (old new : F) → IsSettled held may_leave old → may ⊎ IfSome (held old) NoneStands → Run IsMoveOf IsMoveOf old new → Run (IsRepairOf may) (IsRepairOf may) old new
    repaired_moving old new settled (inl so) ran =
        weaker held may_leave moment left_since faults IsMoveOf (IsRepairOf may) IsMoveOf (IsRepairOf may) old new ran (λ h k m. repair_may may so h k m) (λ h k m. repair_may may so h k m)
    repaired_moving old new settled (inr none) ran =
        let all = all_settled NoneStands old settled none in
        told_before held may_leave moment left_since faults IsMoveOf IsMoveOf (IsRepairOf may) (IsRepairOf may) NoneStands old new ran all.0 all.1 (repair_of_none may) (repair_of_none may)

    -- a repair behind a repair
    pub repaired_twice : (old mid new : F) → Run (IsRepairOf may) (IsRepairOf may) old mid → Run (IsRepairOf may) (IsRepairOf may) mid new → Run (IsRepairOf may) (IsRepairOf may) old new
    repaired_twice old mid new first next =
        ran_on held may_leave moment left_since faults (IsRepairOf may) (IsRepairOf may) (IsRepairOf may) (IsRepairOf may) (IsRepairOf may) (IsRepairOf may) old mid new first next (repair_twice may) (λ h k r. r) (repair_twice may)

  -- the same where less may fail
  pub repaired_where : (may may_also : Type 0) → ((may_also → ⊥) → may → ⊥) → (old new : F) → Run (IsRepairOf may) (IsRepairOf may) old new → Run (IsRepairOf may_also) (IsRepairOf may_also) old new
  repaired_where may may_also less old new ran =
      weaker held may_leave moment left_since faults (IsRepairOf may) (IsRepairOf may_also) (IsRepairOf may) (IsRepairOf may_also) old new ran (repair_where may may_also less) (repair_where may may_also less)
