-- What carries over from a state to what a change makes of it.
use Rattle.std.proofs.Common.{◌≡◌, ◌≢◌, ◌∙◌, ℕ, List, [], ◌∷◌, Contains, Ok, refl, sym, ap, subst}
use Rattle.std.specs.List.{AllByRecursion, AllZip, concat}
use Rattle.pep508.specs.Requirement.{file_of}
use Rattle.pylock.specs.Locks.{IsLock}
use Rattle.pylock.specs.Order.{rises}
use Rattle.states.specs.State.{Fits, IsLockFor, IsState}
use Rattle.states.specs.StateParts.{StateParts, digest_of}
use Rattle.states.specs.Tied.LockForLines.{IsLineMet}
use Rattle.states.specs.declared.target.Target.{Target}
use Rattle.changes.specs.Changes.{ChangeParts, ChangesTarget}
use Rattle.changes.specs.Tied.Carried.{carried_digest}
use Rattle.changes.specs.Tied.CarriedOver.{AreAllMet, AreTouchedMet, IsReachedFrom, KeepNames, KeepsNeeds}
use Rattle.changes.specs.Tied.Outcome.{IsMade, with_outcome}
use Rattle.changes.specs.Tied.SplicedLines.{gone_by, put_by}
use Rattle.changes.specs.declared.change.outcome.Outcome.{Outcome}
use Rattle.states.proofs.FitFacts.{IsState-fits}
use Rattle.states.proofs.LockForLines.{closed-of, met-of, reached-of}
use Rattle.states.proofs.PartFacts.{All-member, All-of}
use Rattle.changes.proofs.CarriedFacts.{digest-carried}
use Rattle.changes.proofs.ChangeFacts.{names-stay}
use Rattle.changes.proofs.LinesCarried.{put-there}
use Rattle.changes.proofs.LockCarried.{lock-carried, lock-reached}
use Rattle.changes.proofs.TargetsByName.{moves-from, stays-from}

-- ---- targets

some-still : (change : ChangeParts) (olds news : List Target) → AllZip (ChangesTarget change) olds news → olds ≢ [] → news ≢ []
some-still change [] news all some = absurd (some refl)
some-still change (t ∷ olds) [] all some = absurd all
some-still change (t ∷ olds) (u ∷ news) all some = λ none. cc none

digests-still : (change : ChangeParts) (digest : List ℕ) (olds news : List Target) → AllZip (ChangesTarget change) olds news → AllByRecursion (λ t. t.lock.snapshot ≡ digest) olds
    → AllByRecursion (λ t. t.lock.snapshot ≡ carried_digest change.digests digest) news
digests-still change digest [] [] all same = tt
digests-still change digest [] (u ∷ news) all same = absurd all
digests-still change digest (t ∷ olds) [] all same = absurd all
digests-still change digest (t ∷ olds) (u ∷ news) all same = (
  digest-carried change.digests t.lock.snapshot u.lock.snapshot all.0.lock.digest ∙ ap (carried_digest change.digests) same.0,
  digests-still change digest olds news all.1 same.1,
)

each-same : (digest other : List ℕ) (targets : List Target) → digest ≡ other → AllByRecursion (λ t. t.lock.snapshot ≡ digest) targets → AllByRecursion (λ t. t.lock.snapshot ≡ other) targets
each-same digest other targets same all = subst (λ (d : List ℕ). AllByRecursion (λ (t : Target). t.lock.snapshot ≡ d) targets) same all

-- what all have is what the first has
first-digest : (digest : List ℕ) (targets : List Target) → AllByRecursion (λ t. t.lock.snapshot ≡ digest) targets → AllByRecursion (λ t. t.lock.snapshot ≡ digest_of targets) targets
first-digest digest [] all = tt
first-digest digest (t ∷ rest) all = each-same digest t.lock.snapshot (t ∷ rest) (sym all.0) all

-- what a lock needs to be one for other lines, lifted to those of all targets
locks-by : (change : ChangeParts) (lines more : List (List ℕ)) (Rest : Target → Type 0)
    → ((t u : Target) → ChangesTarget change t u → IsLockFor lines t.environment t.lock → AreTouchedMet change.entries (put_by change.splices) more u → IsLock u.lock → Rest u → IsLockFor more u.environment u.lock)
    → (olds news : List Target) → AllZip (ChangesTarget change) olds news → AllByRecursion (λ t. IsLockFor lines t.environment t.lock) olds
    → AllByRecursion (λ t. AreTouchedMet change.entries (put_by change.splices) more t × IsLock t.lock) news → AllByRecursion Rest news → AllByRecursion (λ t. IsLockFor more t.environment t.lock) news
locks-by change lines more Rest one [] [] all locks met rest = tt
locks-by change lines more Rest one [] (u ∷ news) all locks met rest = absurd all
locks-by change lines more Rest one (t ∷ olds) [] all locks met rest = absurd all
locks-by change lines more Rest one (t ∷ olds) (u ∷ news) all locks met rest =
    (one t u all.0 locks.0 met.0.0 met.0.1 rest.0, locks-by change lines more Rest one olds news all.1 locks.1 met.1 rest.1)

-- ---- the state

module _ (change : ChangeParts) (old : StateParts) (made : Outcome) (stays : change.targets ≡ []) (before : IsState old) (is : IsMade old change made) where
  -- each target was moved
  each : AllZip (ChangesTarget change) old.targets made.targets
  each = (stays-from change.targets change old.targets made.targets stays is.after.targets).each

  -- a state, of its locks
  by-locks : file_of (concat made.lines) ≡ Ok made.lines → AllByRecursion (λ t. IsLockFor made.lines t.environment t.lock) made.targets → IsState (with_outcome made)
  by-locks reads locks = record {
    lines = reads;
    some = some-still change old.targets made.targets each before.some;
    rising = ap rises (names-stay change old.targets made.targets each) ∙ before.rising;
    locks = locks;
    digest = first-digest (carried_digest change.digests (digest_of old.targets)) made.targets
        (digests-still change (digest_of old.targets) old.targets made.targets each before.digest);
  }

  put-moved : AllByRecursion (λ t. AreTouchedMet change.entries made.put made.lines t × IsLock t.lock) made.targets
      → AllByRecursion (λ t. AreTouchedMet change.entries (put_by change.splices) made.lines t × IsLock t.lock) made.targets
  put-moved met = subst (λ (l : List (List ℕ)). AllByRecursion (λ (t : Target). AreTouchedMet change.entries l made.lines t × IsLock t.lock) made.targets) is.put_is met

  -- where what each entry needs and the names of lines stay, and all that is touched is met, a state was made
  pub state-carried : file_of (concat made.lines) ≡ Ok made.lines → AllByRecursion (λ t. AreTouchedMet change.entries made.put made.lines t × IsLock t.lock) made.targets
      → AllByRecursion KeepsNeeds change.entries → AllByRecursion (KeepNames made.lines made.gone) made.targets → IsState (with_outcome made)
  state-carried reads met keep names = by-locks reads (locks-by change old.lines made.lines (KeepNames made.lines (gone_by change.splices))
      (λ t u target lock touched lawful kept. lock-carried change old.lines made.lines t u is.after.lines target lock touched lawful keep kept)
      old.targets made.targets each before.locks (put-moved met) (subst (λ (l : List (List ℕ)). AllByRecursion (KeepNames made.lines l) made.targets) is.gone_is names))

  -- and where all entries are reached
  pub state-reached : file_of (concat made.lines) ≡ Ok made.lines → AllByRecursion (λ t. AreTouchedMet change.entries made.put made.lines t × IsLock t.lock) made.targets
      → AllByRecursion (IsReachedFrom made.lines) made.targets → IsState (with_outcome made)
  state-reached reads met found = by-locks reads (locks-by change old.lines made.lines (IsReachedFrom made.lines)
      (λ t u target lock touched lawful reached. lock-reached change old.lines made.lines t u is.after.lines target lock touched lawful reached)
      old.targets made.targets each before.locks (put-moved met) found)

module _ (change : ChangeParts) (old : StateParts) (made : Outcome) (is : IsMade old change made) where
  put-met : (t : Target) → AreAllMet made.lines t → AreAllMet made.put t
  put-met t all =
      All-of (IsLineMet t.environment t.lock.entries) made.put
      (λ line there. All-member (IsLineMet t.environment t.lock.entries) made.lines line all
      (put-there 0 change.splices old.lines made.lines is.after.lines line (subst (λ (l : List (List ℕ)). Contains l line) is.put_is there)))

  all-met-in : (targets : List Target) → AllByRecursion (λ t. IsLockFor made.lines t.environment t.lock) targets → AllByRecursion (λ t. AreAllMet made.put t × AreAllMet made.lines t) targets
  all-met-in [] locks = tt
  all-met-in (t ∷ rest) locks =
      let met : AreAllMet made.lines t = met-of made.lines t.environment t.lock locks.0 in
      ((put-met t met, met), all-met-in rest locks.1)

  -- of a state all lines are met
  pub all-met : IsState (with_outcome made) → AllByRecursion (λ t. AreAllMet made.put t × AreAllMet made.lines t) made.targets
  all-met after = all-met-in made.targets after.locks

  all-found : (targets : List Target) → AllByRecursion (λ t. IsLockFor made.lines t.environment t.lock) targets → AllByRecursion (IsReachedFrom made.lines) targets
  all-found [] locks = tt
  all-found (t ∷ rest) locks = (
    record { closed = closed-of made.lines t.environment t.lock locks.0; reached = reached-of made.lines t.environment t.lock locks.0 },
    all-found rest locks.1,
  )

  -- and all are reached
  pub all-reached : IsState (with_outcome made) → AllByRecursion (IsReachedFrom made.lines) made.targets
  all-reached after = all-found made.targets after.locks

-- ---- a state with other targets

-- where all targets fit lines that read, a state was made
pub other-state : (change : ChangeParts) (old : StateParts) (made : Outcome) → change.targets ≢ [] → IsMade old change made → made.targets ≢ [] → file_of (concat made.lines) ≡ Ok made.lines
    → AllByRecursion (Fits made.lines (digest_of made.targets)) made.targets → IsState (with_outcome made)
other-state change old made moves is some reads fit =
    let are = (moves-from change.targets change old.targets made.targets moves is.after.targets).new_are in
    IsState-fits (with_outcome made) reads some are.rising fit
