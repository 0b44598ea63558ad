-- How a repair goes on, and one turn of each of its loops.
use Rattle.std.proofs.Common.{◌≡◌, ◌≤◌, ◌<◌, ◌+◌, ◌||◌, ℕ, zero, suc, Bool, true, false, List, [], ◌∷◌, Option, Some, None, Result, OnOk, OnErr, IfSome, IsSome, get_or, length, take, drop, refl, sym, ap, ◌∙◌, subst, inl, inr, arith, drop-cons, add-one}
use Rattle.std.specs.Str.{bytes_eq}
use Rattle.folder.specs.Calls.{Elapses, Follows, IsDone, IsDoneOrNot, IsSame}
use Rattle.folder.specs.Held.{Held, IsCleared, cleared, in_turn, is_among, renamed}
use Rattle.folder.specs.Repairs.{AreBeside}
use Rattle.folder.specs.Tied.Steps.{IsOnTheWay}
use Rattle.folder.proofs.Names.{cleared-both, cleared-either, same_name}
use Rattle.folder.proofs.Runs.{Ran, carried, goes_on}
use Rattle.folder.proofs.InTurn.{in_turn-more}
use Rattle.folder.proofs.Turns.{either_way}

pub among_name : (names : List (List ℕ)) (i : ℕ) (name : List ℕ) → i < length names → name ≡ get_or names i name → is_among names name ≡ true
among_name [] i name within is = absurd (omega arith)
among_name (n ∷ names) zero name within is = ap (λ (x : List ℕ). bytes_eq x name || is_among names name) (sym is) ∙ ap (λ (t : Bool). t || is_among names name) (same_name name)
among_name (n ∷ names) (suc i) name within is = or_true (bytes_eq n name) (is_among names name) (among_name names i name (omega arith) is)
  where
    or_true : (a b : Bool) → b ≡ true → a || b ≡ true
    or_true true b is = refl
    or_true false b is = is

module _ {F : Type 0} (held : F → Option Held) (may_leave : F → Held → Type 0) (moment : F → ℕ) (left_since : F → ℕ → Held → Type 0) (faults : F → ℕ) where
  abbrev R : (Held → Held → Type 0) → (Held → Held → Type 0) → F → F → Type 0
  R = Ran held may_leave moment left_since faults

  abbrev Fol : (Held → Held → Type 0) → F → F → Type 0
  Fol = Follows held may_leave

  abbrev El : (Held → Held → Type 0) → F → F → Type 0
  El = Elapses moment left_since may_leave

  pub clears_name : {T E : Type 0} (names : List (List ℕ)) (i : ℕ) (item name : List ℕ) (result : Result T E) (old mid new : F)
      → i < length names → item ≡ get_or names i item → name ≡ item
      → R (IsCleared names) (IsCleared names) old mid
      → OnOk result (Fol (IsDone (cleared name)) mid new) → OnErr result (Fol (IsDoneOrNot (cleared name)) mid new) → El (IsDoneOrNot (cleared name)) mid new → faults mid ≤ faults new
      → R (IsCleared names) (IsCleared names) old new
  clears_name names i item name result old mid new within is named so_far done fault time rise =
      let among = subst (λ (n : List ℕ). is_among names n ≡ true) (sym named) (among_name names i item within is) in
      let joins : (h k m : Held) → IsCleared names h k → IsDoneOrNot (cleared name) k m → IsCleared names h m = λ h k m a b. cleared-both names h k m a (cleared-either names name k m among b) in
      either_way result _ _ _ done fault
      (λ d. goes_on held may_leave moment left_since faults (IsCleared names) (IsDone (cleared name)) (IsCleared names) (IsCleared names) (IsDoneOrNot (cleared name)) old mid new so_far d time rise
      (λ h k m a b. joins h k m a (inr b)) joins)
      (λ e. goes_on held may_leave moment left_since faults (IsCleared names) (IsDoneOrNot (cleared name)) (IsCleared names) (IsCleared names) (IsDoneOrNot (cleared name)) old mid new so_far e time rise joins joins)

  module _ {X : Type 0} (step : X → Held → Held) (xs : List X) (i : ℕ) (x : X) (within : i < length xs) (is : x ≡ get_or xs i x) where
    abbrev SoMany : ℕ → Held → Held → Type 0
    SoMany n = IsDone (in_turn step (take n xs))

    way : (h k m : Held) → SoMany i h k → IsDoneOrNot (step x) k m → IsOnTheWay step xs h m
    way h k m a (inl same) = (i, omega (arith, within), same ∙ a)
    way h k m a (inr more) = (i + 1, omega (arith, within), more ∙ ap (λ (y : Held). step x y) a ∙ sym (in_turn-more step xs i x h within is))

    joined : (h k m : Held) → SoMany i h k → m ≡ step x k → SoMany (i + 1) h m
    joined h k m a b = b ∙ ap (λ (y : Held). step x y) a ∙ sym (in_turn-more step xs i x h within is)

    -- one step more, a call
    pub steps_on : (old mid new : F) → R (SoMany i) (IsOnTheWay step xs) old mid → Fol (IsDone (step x)) mid new → El (IsDoneOrNot (step x)) mid new → faults mid ≤ faults new → R (SoMany (i + 1)) (IsOnTheWay step xs) old new
    steps_on old mid new so_far done time rise =
        goes_on held may_leave moment left_since faults (SoMany i) (IsDone (step x)) (SoMany (i + 1)) (IsOnTheWay step xs) (IsDoneOrNot (step x)) old mid new so_far done time rise joined way

    pub steps_none : (old mid new : F) → R (SoMany i) (IsOnTheWay step xs) old mid → Fol IsSame mid new → El (IsDoneOrNot (step x)) mid new → faults mid ≤ faults new → R (IsOnTheWay step xs) (IsOnTheWay step xs) old new
    steps_none old mid new so_far fault time rise =
        goes_on held may_leave moment left_since faults (SoMany i) IsSame (IsOnTheWay step xs) (IsOnTheWay step xs) (IsDoneOrNot (step x)) old mid new so_far fault time rise (λ h k m a b. way h k m a (inl b)) way

-- ---- files that stand beside their places

module _ (names : List (List ℕ)) (i : ℕ) (x : List ℕ) where
  rest : i < length names → x ≡ get_or names i x → drop i names ≡ x ∷ drop (i + 1) names
  rest within is = drop-cons names i x within ∙ (λ j. sym is j ∷ drop (sym (add-one i) j) names)

  at_one : i < length names → x ≡ get_or names i x → (h : Held) → AreBeside (drop i names) h → AreBeside (x ∷ drop (i + 1) names) h
  at_one within is h beside = subst (λ (ns : List (List ℕ)). AreBeside ns h) (rest within is) beside

  -- the one whose turn it is
  pub beside_first : (name : List ℕ) → i < length names → x ≡ get_or names i x → name ≡ x → (o : Option Held) → IfSome o (AreBeside (drop i names)) → IfSome o (λ h. IsSome (h.beside name))
  beside_first name within is named None beside = tt
  beside_first name within is named (Some h) beside = subst (λ (n : List ℕ). IsSome (h.beside n)) (sym named) (at_one within is h beside).0

  -- and those behind it, when it was renamed
  pub beside_on : {F : Type 0} (held : F → Option Held) (may_leave : F → Held → Type 0) → i < length names → x ≡ get_or names i x → (mid new : F)
      → IfSome (held mid) (AreBeside (drop i names)) → Follows held may_leave (IsDone (renamed x)) mid new → IfSome (held new) (AreBeside (drop (i + 1) names))
  beside_on held may_leave within is mid new beside done =
      carried (IsDone (renamed x)) (AreBeside (drop i names)) (AreBeside (drop (i + 1) names))
      (λ h k a b. subst (λ (y : Held). AreBeside (drop (i + 1) names) y) (sym a) (at_one within is h b).1) (held mid) (held new) done.holds beside
