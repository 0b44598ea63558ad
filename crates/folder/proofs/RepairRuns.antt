-- How far a repair has come, and what it leaves.
use Rattle.std.proofs.Common.{◌≡◌, ℕ, List, Option, Some, None, IfSome, true, false, refl, sym, subst, ap, ◌∙◌, inl, inr, arith, length, take, take_all}
use Rattle.folder.specs.Calls.{Follows, GoTogether, IsDone, IsSettled}
use Rattle.folder.specs.Held.{Held, IsCleared, in_turn, is_among, removed, renamed}
use Rattle.folder.specs.Repairs.{AreAmong, AreBeside, IsBetween, IsEnding, IsMoveOf, LeftParts, finished}
use Rattle.folder.specs.Saves.{NewFileParts, names_of}
use Rattle.folder.specs.Tied.Steps.{IsOnTheWay}
use Rattle.folder.proofs.RepairSteps.{all_come, all_removed, all_renamed, are_among_first, beside_first_of, beside_removed, comes_removed, comes_renamed}
use Rattle.folder.proofs.Runs.{Ran, carried, ran_on, weaker}

module _ {F : Type 0} (held : F → Option Held) (may_leave : F → Held → Type 0) (moment : F → ℕ) (left_since : F → ℕ → Held → Type 0) (faults : F → ℕ) (left : LeftParts) where
  abbrev Run : (Held → Held → Type 0) → (Held → Held → Type 0) → F → F → Type 0
  Run = Ran held may_leave moment left_since faults

  pub removing : (old mid : F) → Run (IsOnTheWay removed left.going) (IsOnTheWay removed left.going) old mid → Run (IsEnding left) (IsEnding left) old mid
  removing old mid ran = weaker held may_leave moment left_since faults (IsOnTheWay removed left.going) (IsEnding left) (IsOnTheWay removed left.going) (IsEnding left) old mid ran (λ h k a. inl a) (λ h k a. inl a)

  on : (h k m : Held) → k ≡ in_turn removed left.going h → IsOnTheWay renamed left.names k m → IsEnding left h m
  on h k m is way = inr (subst (λ (x : Held). IsOnTheWay renamed left.names x m) is way)

  pub renaming : (old mid new : F) → Run (IsDone (in_turn removed left.going)) (IsOnTheWay removed left.going) old mid → Run (IsOnTheWay renamed left.names) (IsOnTheWay renamed left.names) mid new → Run (IsEnding left) (IsEnding left) old new
  renaming old mid new first next =
      ran_on held may_leave moment left_since faults (IsDone (in_turn removed left.going)) (IsOnTheWay renamed left.names) (IsEnding left) (IsOnTheWay removed left.going) (IsOnTheWay renamed left.names) (IsEnding left) old mid new first next on (λ h k a. inl a) on

  pub ended : (old mid new : F) → Run (IsDone (in_turn removed left.going)) (IsOnTheWay removed left.going) old mid → Run (IsDone (in_turn renamed left.names)) (IsOnTheWay renamed left.names) mid new → Run (IsDone (finished left)) (IsEnding left) old new
  ended old mid new first next =
      ran_on held may_leave moment left_since faults (IsDone (in_turn removed left.going)) (IsDone (in_turn renamed left.names)) (IsDone (finished left)) (IsOnTheWay removed left.going) (IsOnTheWay renamed left.names) (IsEnding left) old mid new first next
      (λ h k m a b. b ∙ ap (λ (x : Held). in_turn renamed left.names x) a) (λ h k a. inl a) on

  -- a repair that has ended has come to its end
  pub all_of : (old new : F) → Run (IsDone (finished left)) (IsEnding left) old new → Run (IsEnding left) (IsEnding left) old new
  all_of old new ran = weaker held may_leave moment left_since faults (IsDone (finished left)) (IsEnding left) (IsEnding left) (IsEnding left) old new ran whole (λ h k a. a)
    where
      whole : (h k : Held) → k ≡ finished left h → IsEnding left h k
      whole h k is = inr (length left.names, omega arith, is ∙ ap (λ (names : List (List ℕ)). in_turn renamed names (in_turn removed left.going h)) (sym (take_all (length left.names) left.names (omega arith))))

  -- what is to be renamed stands beside its place still
  pub ready : (old mid : F) → IfSome (held old) (AreBeside left.names) → Follows held may_leave (IsDone (in_turn removed left.going)) old mid → IfSome (held mid) (AreBeside left.names)
  ready old mid beside done =
      carried (IsDone (in_turn removed left.going)) (AreBeside left.names) (AreBeside left.names) (λ h k a b. subst (λ (x : Held). AreBeside left.names x) (sym a) (beside_removed left.names left.going h b)) (held old) (held mid) done.holds beside

-- ---- what a repair leaves

pub repair_moves : (left : LeftParts) (old new : Held) → IsEnding left old new → IsMoveOf old new
repair_moves left old new (inl way) = subst (λ (x : Held). IsMoveOf old x) (sym way.2) (all_come removed comes_removed (take way.0 left.going) old old (λ y. (inl refl, inl refl)))
repair_moves left old new (inr way) =
    subst (λ (x : Held). IsMoveOf old x) (sym way.2)
    (all_come renamed comes_renamed (take way.0 left.names) old (in_turn removed left.going old) (all_come removed comes_removed left.going old old (λ y. (inl refl, inl refl))))

pub repair_leaves : (files : List NewFileParts) (going : List (List ℕ)) (old was is : Held) (left : LeftParts)
    → ((name : List ℕ) → is_among going name ≡ true → is_among (names_of files) name ≡ false)
    → AreAmong left.going going → AreAmong left.names (names_of files) → AreBeside left.names was → IsBetween files going old was → IsEnding left was is → IsBetween files going old is
repair_leaves files going old was is left others gone some beside between (inl way) =
    subst (λ (x : Held). IsBetween files going old x) (sym way.2) (all_removed files going others old (take way.0 left.going) was (are_among_first left.going going way.0 gone) between)
repair_leaves files going old was is left others gone some beside between (inr way) =
    subst (λ (x : Held). IsBetween files going old x) (sym way.2)
    (all_renamed files going others old (take way.0 left.names) (in_turn removed left.going was) (are_among_first left.names (names_of files) way.0 some) (beside_first_of left.names way.0 (in_turn removed left.going was) (beside_removed left.names left.going was beside))
    (all_removed files going others old left.going was gone between))

-- ---- moves

pub moves_still : (h k : Held) → k ≡ h → IsMoveOf h k
moves_still h k is name = (inl (ap (λ (x : Held). x.placed name) is), inl (ap (λ (x : Held). x.beside name) is))

pub moves_twice : (h k m : Held) → IsMoveOf h k → IsMoveOf k m → IsMoveOf h m
moves_twice h k m first next name = (
  elim (next name).0 [
    | inl same ↦ elim (first name).0 [ inl a ↦ inl (same ∙ a) | inr other ↦ elim other [ inl a ↦ inr (inl (same ∙ a)) | inr none ↦ inr (inr (same ∙ none)) ] ]
    | inr other ↦ elim other [
      | inl put ↦ elim (first name).1 [ inl a ↦ inr (inl (put ∙ a)) | inr none ↦ inr (inr (put ∙ none)) ]
      | inr none ↦ inr (inr none)
    ]
  ],
  elim (next name).1 [
    | inl same ↦ elim (first name).1 [ inl a ↦ inl (same ∙ a) | inr none ↦ inr (same ∙ none) ]
    | inr none ↦ inr none
  ],
)

-- what is removed from beside the places is moved
pub clearing_moves : (names : List (List ℕ)) (h k : Held) → IsCleared names h k → IsMoveOf h k
clearing_moves names h k cleared name = (
  inl (ap (λ (f : List ℕ → Option (List ℕ)). f name) cleared.placed),
  elim (cleared.beside name) [ inl same ↦ inl same | inr gone ↦ inr gone.1 ],
)

-- ---- a settled folder

still_some : (f : Held → Held) (a b : Option Held) (h : Held) → GoTogether (IsDone f) a b → a ≡ Some h → b ≡ Some (f h)
still_some f None None h goes is = absurd (cc is)
still_some f None (Some y) h goes is = absurd goes
still_some f (Some x) None h goes is = absurd goes
still_some f (Some x) (Some y) h goes is = ap (λ (z : Held). Some z) goes ∙ ap (λ (o : Option Held). after o) is
  where
    after : Option Held → Option Held
    after None = None
    after (Some z) = Some (f z)

-- a change that was made leaves it settled
pub settled_done : {F : Type 0} (held : F → Option Held) (may_leave : F → Held → Type 0) (f : Held → Held) (old new : F) → IsSettled held may_leave old → Follows held may_leave (IsDone f) old new → IsSettled held may_leave new
settled_done held may_leave f old new settled follows c left =
    let from = follows.leaves c left in
    still_some f (held old) (held new) from.0 follows.holds (settled from.0 from.1) ∙ ap (λ (z : Held). Some z) (sym from.2)
