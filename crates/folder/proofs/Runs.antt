-- How a run of a folder's calls goes on.
use Rattle.std.proofs.Common.{◌≡◌, ◌≤◌, ℕ, Option, Some, None, IsSome, IfSome, List, [], ◌∷◌, length, inl, inr, ⊎_elim, refl, sym, subst, ◌∙◌, arith}
use Rattle.folder.specs.Held.{Held}
pub use Rattle.folder.specs.Calls.{Ran}
use Rattle.folder.specs.Calls.{After, Elapses, Follows, GoTogether, IsSame, LeavesOnly}

-- what goes together in two calls goes together in both
pub together : (R S T : Held → Held → Type 0) → ((h k m : Held) → R h k → S k m → T h m) → (a b c : Option Held) → GoTogether R a b → GoTogether S b c → GoTogether T a c
together R S T joins None None None r s = tt
together R S T joins None None (Some m) r s = absurd s
together R S T joins None (Some k) c r s = absurd r
together R S T joins (Some h) None c r s = absurd r
together R S T joins (Some h) (Some k) None r s = absurd s
together R S T joins (Some h) (Some k) (Some m) r s = joins h k m r s

pub together_at : (R : Held → Held → Type 0) → ((h : Held) → R h h) → (a : Option Held) → GoTogether R a a
together_at R same None = tt
together_at R same (Some h) = same h

-- what was known stays known
pub known : (R : Held → Held → Type 0) (a b : Option Held) → GoTogether R a b → IsSome a → IsSome b
known R None b r is = absurd (cc is)
known R (Some h) None r is = absurd r
known R (Some h) (Some k) r is = refl

-- what follows of what goes together
pub carried : (R : Held → Held → Type 0) (P Q : Held → Type 0) → ((h k : Held) → R h k → P h → Q k) → (a b : Option Held) → GoTogether R a b → IfSome a P → IfSome b Q
carried R P Q leads None None r p = tt
carried R P Q leads None (Some k) r p = absurd r
carried R P Q leads (Some h) None r p = absurd r
carried R P Q leads (Some h) (Some k) r p = leads h k r p

pub made : (R : Held → Held → Type 0) (Q : Held → Type 0) → ((h k : Held) → R h k → Q k) → (a b : Option Held) → GoTogether R a b → IfSome b Q
made R Q leads None None r = tt
made R Q leads None (Some k) r = absurd r
made R Q leads (Some h) None r = absurd r
made R Q leads (Some h) (Some k) r = leads h k r

less_together : (R T : Held → Held → Type 0) → ((h k : Held) → R h k → T h k) → (a b : Option Held) → GoTogether R a b → GoTogether T a b
less_together R T less None None r = tt
less_together R T less None (Some k) r = absurd r
less_together R T less (Some h) None r = absurd r
less_together R T less (Some h) (Some k) r = less h k r

told_last : (R P : Held → Held → Type 0) (Q : Held → Type 0) → ((h k : Held) → R h k → Q k → P h k) → (a b : Option Held) → GoTogether R a b → IfSome b Q → GoTogether P a b
told_last R P Q both None None r q = tt
told_last R P Q both None (Some k) r q = absurd r
told_last R P Q both (Some h) None r q = absurd r
told_last R P Q both (Some h) (Some k) r q = both h k r q

told_first : (R P : Held → Held → Type 0) (Q : Held → Type 0) → ((h k : Held) → R h k → Q h → P h k) → (a b : Option Held) → GoTogether R a b → IfSome a Q → GoTogether P a b
told_first R P Q both None None r q = tt
told_first R P Q both None (Some k) r q = absurd r
told_first R P Q both (Some h) None r q = absurd r
told_first R P Q both (Some h) (Some k) r q = both h k r q

module _ {F : Type 0} (held : F → Option Held) (may_leave : F → Held → Type 0) (moment : F → ℕ) (left_since : F → ℕ → Held → Type 0) (faults : F → ℕ) where
  abbrev Run : (Held → Held → Type 0) → (Held → Held → Type 0) → F → F → Type 0
  Run = Ran held may_leave moment left_since faults

  -- before the first call
  pub begun : (goes within : Held → Held → Type 0) (old : F) → ((h : Held) → goes h h) → ((h : Held) → within h h) → ((c : Held) → left_since old (moment old) c → may_leave old c) → Run goes within old old
  begun goes within old same near only = record {
    follows = record { holds = together_at goes same (held old); leaves = λ c left. (c, left, same c) };
    moments = record { later = omega arith; each = λ c left. (c, only c left, near c); before = λ t c le left. inl left };
    faults_rise = omega arith;
  }

  -- one call more
  pub goes_on : (R S T W X : Held → Held → Type 0) (old mid new : F) → Run R W old mid → Follows held may_leave S mid new → Elapses moment left_since may_leave X mid new → faults mid ≤ faults new
      → ((h k m : Held) → R h k → S k m → T h m) → ((h k m : Held) → R h k → X k m → W h m) → Run T W old new
  goes_on R S T W X old mid new so_far follows time rise joins stays = record {
    follows = record {
      holds = together R S T joins (held old) (held mid) (held new) so_far.follows.holds follows.holds;
      leaves = λ c left. let b = follows.leaves c left in let a = so_far.follows.leaves b.0 b.1 in (a.0, a.1, joins a.0 b.0 c a.2 b.2);
    };
    moments = record {
      later = omega (arith, so_far.moments.later, time.later);
      each = λ c left. ⊎_elim (so_far.moments.each c) (now c) (time.nothing_else (moment old) c so_far.moments.later left);
      before = λ t c le left. ⊎_elim (so_far.moments.before t c le) (λ r. inr (now c r)) (time.nothing_else t c (omega (arith, le, so_far.moments.later)) left);
    };
    faults_rise = omega (arith, so_far.faults_rise, rise);
  }
    where
      now : (c : Held) → After X (may_leave mid) c → After W (may_leave old) c
      now c b = let a = so_far.follows.leaves b.0 b.1 in (a.0, a.1, stays a.0 b.0 c a.2 b.2)

  -- one function more, which may be stopped itself
  pub runs_on : (R S T W X : Held → Held → Type 0) (old mid new : F) → Run R W old mid → Follows held may_leave S mid new → LeavesOnly moment left_since may_leave X mid new → faults mid ≤ faults new
      → ((h k m : Held) → R h k → S k m → T h m) → ((h k m : Held) → R h k → X k m → W h m) → Run T W old new
  runs_on R S T W X old mid new so_far follows time rise joins stays = record {
    follows = record {
      holds = together R S T joins (held old) (held mid) (held new) so_far.follows.holds follows.holds;
      leaves = λ c left. let b = follows.leaves c left in let a = so_far.follows.leaves b.0 b.1 in (a.0, a.1, joins a.0 b.0 c a.2 b.2);
    };
    moments = record {
      later = omega (arith, so_far.moments.later, time.later);
      each = λ c left. ⊎_elim (so_far.moments.each c) (now c) (time.before (moment old) c so_far.moments.later left);
      before = λ t c le left. ⊎_elim (so_far.moments.before t c le) (λ r. inr (now c r)) (time.before t c (omega (arith, le, so_far.moments.later)) left);
    };
    faults_rise = omega (arith, so_far.faults_rise, rise);
  }
    where
      now : (c : Held) → After X (may_leave mid) c → After W (may_leave old) c
      now c b = let a = so_far.follows.leaves b.0 b.1 in (a.0, a.1, stays a.0 b.0 c a.2 b.2)

  -- the same, said less exactly
  pub weaker : (R T W Y : Held → Held → Type 0) (old new : F) → Run R W old new → ((h k : Held) → R h k → T h k) → ((h k : Held) → W h k → Y h k) → Run T Y old new
  weaker R T W Y old new ran less near = record {
    follows = record { holds = less_together R T less (held old) (held new) ran.follows.holds; leaves = λ c left. let a = ran.follows.leaves c left in (a.0, a.1, less a.0 c a.2) };
    moments = record {
      later = ran.moments.later;
      each = λ c left. let a = ran.moments.each c left in (a.0, a.1, near a.0 c a.2);
      before = λ t c le left. ⊎_elim (λ l. inl l) (λ (a : After W (may_leave old) c). inr (a.0, a.1, near a.0 c a.2)) (ran.moments.before t c le left);
    };
    faults_rise = ran.faults_rise;
  }

  -- one run behind another
  pub ran_on : (R S T W X Y : Held → Held → Type 0) (old mid new : F) → Run R W old mid → Run S X mid new → ((h k m : Held) → R h k → S k m → T h m) → ((h k : Held) → W h k → Y h k) → ((h k m : Held) → R h k → X k m → Y h m)
      → Run T Y old new
  ran_on R S T W X Y old mid new first next joins near stays =
      runs_on R S T Y X old mid new (weaker R R W Y old mid first (λ h k r. r) near) next.follows next.moments next.faults_rise joins stays

  -- what is so of all that is held and may be left behind a run, or before it
  pub told_behind : (R W P : Held → Held → Type 0) (Q : Held → Type 0) (old new : F) → Run R W old new → IfSome (held new) Q → ((c : Held) → may_leave new c → Q c) → ((h k : Held) → R h k → Q k → P h k) → Run P W old new
  told_behind R W P Q old new ran now each both = record {
    follows = record { holds = told_last R P Q both (held old) (held new) ran.follows.holds now; leaves = λ c left. let a = ran.follows.leaves c left in (a.0, a.1, both a.0 c a.2 (each c left)) };
    moments = ran.moments;
    faults_rise = ran.faults_rise;
  }

  pub told_before : (R W P V : Held → Held → Type 0) (Q : Held → Type 0) (old new : F) → Run R W old new → IfSome (held old) Q → ((c : Held) → may_leave old c → Q c) → ((h k : Held) → R h k → Q h → P h k) → ((h k : Held) → W h k → Q h → V h k) → Run P V old new
  told_before R W P V Q old new ran now each both near = record {
    follows = record { holds = told_first R P Q both (held old) (held new) ran.follows.holds now; leaves = λ c left. let a = ran.follows.leaves c left in (a.0, a.1, both a.0 c a.2 (each a.0 a.1)) };
    moments = record {
      later = ran.moments.later;
      each = λ c left. let a = ran.moments.each c left in (a.0, a.1, near a.0 c a.2 (each a.0 a.1));
      before = λ t c le left. ⊎_elim (λ l. inl l) (λ (a : After W (may_leave old) c). inr (a.0, a.1, near a.0 c a.2 (each a.0 a.1))) (ran.moments.before t c le left);
    };
    faults_rise = ran.faults_rise;
  }

  -- where no call is made
  pub stays_at : (old : F) → ((c : Held) → left_since old (moment old) c → may_leave old c) → Run IsSame IsSame old old
  stays_at old only = begun IsSame IsSame old (λ h. refl) (λ h. refl) only

  pub still_twice : (old mid new : F) → Run IsSame IsSame old mid → Run IsSame IsSame mid new → Run IsSame IsSame old new
  still_twice old mid new first next = ran_on IsSame IsSame IsSame IsSame IsSame IsSame old mid new first next (λ h k m a b. b ∙ a) (λ h k a. a) (λ h k m a b. b ∙ a)

  pub runs_at : (S X : Held → Held → Type 0) (old : F) → ((c : Held) → left_since old (moment old) c → may_leave old c) → ((h : Held) → S h h) → ((h : Held) → X h h) → Run S X old old
  runs_at S X old only same near = begun S X old same near only

  -- behind calls that change nothing, and before them
  pub behind_still : (S X : Held → Held → Type 0) (old mid new : F) → Run IsSame IsSame old mid → Run S X mid new → ((h : Held) → X h h) → Run S X old new
  behind_still S X old mid new still ran near = ran_on IsSame S S IsSame X X old mid new still ran (λ h k m is s. subst (λ (x : Held). S x m) is s) (λ h k is. subst (λ (x : Held). X h x) (sym is) (near h)) (λ h k m is x. subst (λ (y : Held). X y m) is x)

  pub before_still : (S X : Held → Held → Type 0) (old mid new : F) → Run S X old mid → Run IsSame IsSame mid new → ((h k : Held) → S h k → X h k) → Run S X old new
  before_still S X old mid new ran still near = ran_on S IsSame S X IsSame X old mid new ran still (λ h k m s is. subst (λ (x : Held). S h x) (sym is) s) (λ h k x. x) (λ h k m s is. subst (λ (y : Held). X h y) (sym is) (near h k s))

pub none_there : {X : Type 0} (xs : List X) → length xs ≡ 0 → xs ≡ []
none_there [] none = refl
none_there (x ∷ xs) none = absurd (omega arith)
