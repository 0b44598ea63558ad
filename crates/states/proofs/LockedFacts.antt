-- Targets locked one after another, and the state that they make.
use Rattle.std.proofs.Common.{◌≡◌, ◌≢◌, ◌++◌, ◌∙◌, ℕ, true, List, [], ◌∷◌, Ok, map, refl, sym, ap, subst, append-nil}
use Rattle.std.proofs.lemmas.List.{nil_from_length}
use Rattle.std.specs.List.{AllByRecursion, AllZip, concat}
use Rattle.std.specs.Vec.Iter.{into_iter_items, into_iter_len}
use Rattle.std.specs.declared.alloc.Global.{Global}
use Rattle.std.specs.declared.vec.IntoIter.{IntoIter}
use Rattle.pep508.specs.Requirement.{file_of}
use Rattle.problems.specs.Rules.{rules_of}
use Rattle.pylock.specs.Order.{rises}
use Rattle.search.specs.Solutions.{HasNoSolution}
use Rattle.states.specs.Locks.{HasUnsolved, IsLocked, IsTargetLocked, given_for}
use Rattle.states.specs.Pool.{PoolParts}
use Rattle.states.specs.State.{IsLockFor, IsState}
use Rattle.states.specs.StateParts.{digest_of}
use Rattle.states.specs.Tied.Locks.{IsTargetFor}
use Rattle.states.specs.declared.locks.Unlocked.{Unlocked}
use Rattle.states.specs.declared.target.Target.{Target}
use Rattle.lists.proofs.Members.{Contains-here, Contains-there}

-- targets are locked, one for each that was to be
abbrev pub AreFor : List (List ℕ) → PoolParts → List Unlocked → List Target → Type 0
AreFor lines pool unlocked targets = AllZip (IsTargetFor lines) (map (given_for lines pool) unlocked) targets

-- what is locked of all is in front of what the rest gives, and what has no solution among the rest has none among all
pub record IsLockedSoFar (lines : List (List ℕ)) (pool : PoolParts) (all rest : List Unlocked) (made : List Target) : Type 0 where
  pub onward : (more : List Target) → AreFor lines pool rest more → AreFor lines pool all (made ++ more)
  pub stops : HasUnsolved (map (given_for lines pool) rest) → HasUnsolved (map (given_for lines pool) all)

pub locked-start : (lines : List (List ℕ)) (pool : PoolParts) (all : List Unlocked) → IsLockedSoFar lines pool all all []
locked-start lines pool all = record { onward = λ more are. are; stops = λ unsolved. unsolved }

seam : (made : List Target) (t : Target) (more : List Target) → (made ++ t ∷ []) ++ more ≡ made ++ t ∷ more
seam [] t more = refl
seam (m ∷ made) t more = ap (λ (l : List Target). m ∷ l) (seam made t more)

pub locked-next : (lines : List (List ℕ)) (pool : PoolParts) (all left : List Unlocked) (x : Unlocked) (rest : List Unlocked) (made : List Target) (t : Target)
    → left ≡ x ∷ rest → IsLockedSoFar lines pool all left made → IsTargetFor lines (given_for lines pool x) t → IsLockedSoFar lines pool all rest (made ++ t ∷ [])
locked-next lines pool all left x rest made t taken before is =
    let so : IsLockedSoFar lines pool all (x ∷ rest) made = subst (λ (l : List Unlocked). IsLockedSoFar lines pool all l made) taken before in
    record {
      onward = λ more are. subst (AreFor lines pool all) (sym (seam made t more)) (so.onward (t ∷ more) (is, are));
      stops = λ unsolved. so.stops (unsolved.0, Contains-there (given_for lines pool x) (map (given_for lines pool) rest) unsolved.0 unsolved.1, unsolved.2);
    }

pub locked-stops : (lines : List (List ℕ)) (pool : PoolParts) (all left : List Unlocked) (x : Unlocked) (rest : List Unlocked) (made : List Target)
    → left ≡ x ∷ rest → IsLockedSoFar lines pool all left made → HasNoSolution (rules_of (given_for lines pool x).1) → HasUnsolved (map (given_for lines pool) all)
locked-stops lines pool all left x rest made taken before none =
    let so : IsLockedSoFar lines pool all (x ∷ rest) made = subst (λ (l : List Unlocked). IsLockedSoFar lines pool all l made) taken before in
    so.stops (given_for lines pool x, Contains-here (given_for lines pool x) (map (given_for lines pool) rest), none)

-- a list that is gone through has no items left where its length is zero
none_left : (it : IntoIter Unlocked Global) → into_iter_len it ≡ 0 → into_iter_items it ≡ []
none_left it none = nil_from_length (into_iter_items it) (sym it.rest.ok.0 ∙ none)

pub locked-ends : (lines : List (List ℕ)) (pool : PoolParts) (all : List Unlocked) (left : IntoIter Unlocked Global) (made : List Target) → into_iter_len left ≡ 0 → IsLockedSoFar lines pool all left.rest.items made
    → AreFor lines pool all made
locked-ends lines pool all left made none before =
    let so : IsLockedSoFar lines pool all [] made = subst (λ (l : List Unlocked). IsLockedSoFar lines pool all l made) (none_left left none) before in
    subst (AreFor lines pool all) (append-nil made) (so.onward [] tt)

-- ---- the state

names-kept : (lines : List (List ℕ)) (pool : PoolParts) (unlocked : List Unlocked) (targets : List Target) → AreFor lines pool unlocked targets → map (λ t. t.name) targets ≡ map (λ u. u.name) unlocked
names-kept lines pool [] [] are = refl
names-kept lines pool [] (t ∷ targets) are = absurd are
names-kept lines pool (u ∷ unlocked) [] are = absurd are
names-kept lines pool (u ∷ unlocked) (t ∷ targets) are = λ i. are.0.locked.name i ∷ names-kept lines pool unlocked targets are.1 i

locks-made : (lines : List (List ℕ)) (pool : PoolParts) (unlocked : List Unlocked) (targets : List Target) → AreFor lines pool unlocked targets → AllByRecursion (λ t. IsLockFor lines t.environment t.lock) targets
locks-made lines pool [] [] are = tt
locks-made lines pool [] (t ∷ targets) are = absurd are
locks-made lines pool (u ∷ unlocked) [] are = absurd are
locks-made lines pool (u ∷ unlocked) (t ∷ targets) are = (are.0.fits, locks-made lines pool unlocked targets are.1)

digests-made : (lines : List (List ℕ)) (pool : PoolParts) (unlocked : List Unlocked) (targets : List Target) → AreFor lines pool unlocked targets → AllByRecursion (λ t. t.lock.snapshot ≡ pool.index.digest) targets
digests-made lines pool [] [] are = tt
digests-made lines pool [] (t ∷ targets) are = absurd are
digests-made lines pool (u ∷ unlocked) [] are = absurd are
digests-made lines pool (u ∷ unlocked) (t ∷ targets) are = (are.0.locked.lock.snapshot, digests-made lines pool unlocked targets are.1)

-- a digest that all locks have is that of the first
one-digest : (digest : List ℕ) (targets : List Target) → AllByRecursion (λ t. t.lock.snapshot ≡ digest) targets → AllByRecursion (λ t. t.lock.snapshot ≡ digest_of targets) targets
one-digest digest [] all = tt
one-digest digest (t ∷ targets) all = subst (λ (d : List ℕ). AllByRecursion (λ (u : Target). u.lock.snapshot ≡ d) (t ∷ targets)) (sym all.0) all

some-made : (lines : List (List ℕ)) (pool : PoolParts) (unlocked : List Unlocked) (targets : List Target) → AreFor lines pool unlocked targets → unlocked ≢ [] → targets ≢ []
some-made lines pool [] [] are some = absurd (some refl)
some-made lines pool [] (t ∷ targets) are some = absurd are
some-made lines pool (u ∷ unlocked) [] are some = absurd are
some-made lines pool (u ∷ unlocked) (t ∷ targets) are some = λ none. cc

-- targets that are locked make a state with the lines
pub IsState-locked : (lines : List (List ℕ)) (pool : PoolParts) (unlocked : List Unlocked) (targets : List Target) → AreFor lines pool unlocked targets → unlocked ≢ [] → rises (map (λ u. u.name) unlocked) ≡ true
    → file_of (concat lines) ≡ Ok lines → IsState (record { lines = lines; targets = targets })
IsState-locked lines pool unlocked targets are some rising read = record {
  lines = read;
  some = some-made lines pool unlocked targets are some;
  rising = ap rises (names-kept lines pool unlocked targets are) ∙ rising;
  locks = locks-made lines pool unlocked targets are;
  digest = one-digest pool.index.digest targets (digests-made lines pool unlocked targets are);
}

targets-locked : (lines : List (List ℕ)) (pool : PoolParts) (unlocked : List Unlocked) (targets : List Target) → AreFor lines pool unlocked targets → AllZip IsTargetLocked (map (given_for lines pool) unlocked) targets
targets-locked lines pool [] [] are = tt
targets-locked lines pool [] (t ∷ targets) are = absurd are
targets-locked lines pool (u ∷ unlocked) [] are = absurd are
targets-locked lines pool (u ∷ unlocked) (t ∷ targets) are = (are.0.locked, targets-locked lines pool unlocked targets are.1)

pub IsLocked-for : (lines : List (List ℕ)) (pool : PoolParts) (unlocked : List Unlocked) (targets : List Target) → AreFor lines pool unlocked targets
    → IsLocked (map (given_for lines pool) unlocked) lines (record { lines = lines; targets = targets })
IsLocked-for lines pool unlocked targets are = record { lines_are = refl; targets = targets-locked lines pool unlocked targets are }
