-- What the calls of a folder do, and what a stop leaves. All of it is reqlock's own rule.
use Rattle.std.specs.Prelude.{◌<◌, ◌≡◌, ◌⊎◌, ◌≤◌, ⊤, ℕ, Option, Some, None, Result, IsErrOf, IsSome}
use Rattle.folder.specs.Held.{Held}

-- all is as it was
abbrev pub IsSame : Held → Held → Type 0
IsSame old new = new ≡ old

-- a change was made
abbrev pub IsDone : (Held → Held) → Held → Held → Type 0
IsDone change old new = new ≡ change old

-- a change was made, or all is as it was
abbrev pub IsDoneOrNot : (Held → Held) → Held → Held → Type 0
IsDoneOrNot change old new = (new ≡ old) ⊎ (new ≡ change old)

-- what was held and what is held go together so; or neither is known
abbrev pub GoTogether : (Held → Held → Type 0) → Option Held → Option Held → Type 0
GoTogether goes None None = ⊤
GoTogether goes (Some old) (Some new) = goes old new
GoTogether goes (Some old) None = ⊥
GoTogether goes None (Some new) = ⊥

-- something that a stop might have left before goes together with this
abbrev pub After : (Held → Held → Type 0) → (Held → Type 0) → Held → Type 0
After goes may_leave new = (old : Held) × may_leave old × goes old new

-- what is held, and each thing that a stop may leave, comes so of what there was before
pub record Follows {F : Type 0} (held : F → Option Held) (may_leave : F → Held → Type 0) (goes : Held → Held → Type 0) (old new : F) : Type 0 where
  pub holds : GoTogether goes (held old) (held new)
  pub leaves : (c : Held) → may_leave new c → After goes (may_leave old) c

-- Time goes on: a stop since t might have left what it might have left before, or what comes so of that.
pub record Elapses {F : Type 0} (moment : F → ℕ) (left_since : F → ℕ → Held → Type 0) (may_leave : F → Held → Type 0) (goes : Held → Held → Type 0) (old new : F) : Type 0 where
  pub later : moment old ≤ moment new
  pub nothing_else : (t : ℕ) (c : Held) → t ≤ moment old → left_since new t c → left_since old t c ⊎ After goes (may_leave old) c
  pub keeps : (t : ℕ) (c : Held) → t ≤ moment old → left_since old t c → left_since new t c

-- A stop at any moment since old leaves what comes so of what one might have left then.
pub record LeavesOnly {F : Type 0} (moment : F → ℕ) (left_since : F → ℕ → Held → Type 0) (may_leave : F → Held → Type 0) (goes : Held → Held → Type 0) (old new : F) : Type 0 where
  pub later : moment old ≤ moment new
  pub each : (c : Held) → left_since new (moment old) c → After goes (may_leave old) c
  -- for a run that began earlier
  pub before : (t : ℕ) (c : Held) → t ≤ moment old → left_since new t c → left_since old t c ⊎ After goes (may_leave old) c

-- A run of calls leads so from what was held to what is held, and a stop within it leaves this.
pub record Ran {F : Type 0} (held : F → Option Held) (may_leave : F → Held → Type 0) (moment : F → ℕ) (left_since : F → ℕ → Held → Type 0) (faults : F → ℕ) (goes within : Held → Held → Type 0) (old new : F) : Type 0 where
  pub follows : Follows held may_leave goes old new
  pub moments : LeavesOnly moment left_since may_leave within old new
  pub faults_rise : faults old ≤ faults new

-- nothing has changed
abbrev pub Stays : {F : Type 0} → (F → Option Held) → (F → Held → Type 0) → (F → ℕ) → (F → ℕ → Held → Type 0) → (F → ℕ) → F → F → Type 0
Stays held may_leave moment left_since faults old new = Ran held may_leave moment left_since faults IsSame IsSame old new

-- this fault is told only where a read or a write has failed since
pub record HasCause {F T E : Type 0} (held : F → Option Held) (faults : F → ℕ) (old new : F) (result : Result T E) (fault : E) : Type 0 where
  pub later : faults old ≤ faults new
  pub failed : IsSome (held old) → IsErrOf result fault → faults old < faults new

-- what is held is what a stop leaves, as after a restart
abbrev pub IsSettled : {F : Type 0} → (F → Option Held) → (F → Held → Type 0) → F → Type 0
IsSettled held may_leave folder = (c : Held) → may_leave folder c → held folder ≡ Some c
