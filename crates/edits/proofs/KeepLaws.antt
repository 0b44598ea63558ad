-- Edits beside whose kept versions no others count.
use Rattle.std.proofs.Common.{◌≡◌, ◌↔◌, inl, inr, ℕ, true, List, [], ◌∷◌, Option, Some, None, Ok, Err, Contains, map, refl, sym, subst}
use Rattle.std.specs.List.{AllByRecursion, AllZip}
use Rattle.search.specs.Solutions.{IsBest, Solution as IsSolution}
use Rattle.states.proofs.PartFacts.{All-member}
use Rattle.problems.specs.Rules.{rules_of}
use Rattle.pep440.specs.Version.{VersionParts}
use Rattle.pylock.specs.Packages.{EntryParts}
use Rattle.snapshot.specs.Packages.{Index}
use Rattle.problems.specs.Laws.{AKeptVersionIsThatOfItsRelease, BestKeepsAll, KeepsAll, NeedsForgetKeptVersions, SolutionsKeepAll, alone, preferred}
use Rattle.problems.specs.Problem.{ProblemParts}
use Rattle.problems.specs.Solutions.{version_for}
use Rattle.states.specs.Locks.{HasUnsolved, IsDependency, IsEntry, IsLockOf, IsTargetLocked, versions_of}
use Rattle.states.specs.Pool.{kept_alone, whole}
use Rattle.states.specs.StateParts.{StateParts}
use Rattle.states.specs.declared.refusal.Refusal.{Refusal}
use Rattle.states.specs.declared.refusal.Refusal.TheVariants.{NoSolution}
use Rattle.states.specs.declared.target.Target.{Target}
use Rattle.edits.specs.Edits.{EditResult, Locks, Unless, lines_after, problem_for, problem_retargeted, problems_after, problems_over, refusal_of}
use Rattle.edits.specs.Laws.{CanKeepAll, KeepsPins, LockKeepsAll}
use Rattle.edits.specs.declared.request.Edit.{Edit}
use Rattle.edits.specs.declared.request.Edit.TheVariants.{Add, Constrain, Relock, Remove, Replace, Retarget, Upgrade, UpgradeAll}
use Rattle.lists.proofs.Members.{Contains-map}

-- ---- problems in which no others count

-- the problem of a name, in which no version but the kept one of a name counts
abbrev alone_of : List ℕ × ProblemParts → List ℕ × ProblemParts
alone_of given = (given.0, alone given.1)

each-alone : {A : Type 0} (f g : A → List ℕ × ProblemParts) → ((x : A) → f x ≡ alone_of (g x)) → (xs : List A) → map f xs ≡ map alone_of (map g xs)
each-alone f g is [] = refl
each-alone f g is (x ∷ xs) = λ i. is x i ∷ each-alone f g is xs i

-- the problems of an edit over `kept_alone` are those over the whole index, in which no others count
over-alone : (lines : List (List ℕ)) (present : List Target) (edit : Edit) (index : Index) → problems_over lines present edit (kept_alone index) ≡ map alone_of (problems_over lines present edit (whole index))
over-alone lines present (Add text) index = each-alone (problem_for lines (Add text) (kept_alone index)) (problem_for lines (Add text) (whole index)) (λ t. refl) present
over-alone lines present (Remove name) index = each-alone (problem_for lines (Remove name) (kept_alone index)) (problem_for lines (Remove name) (whole index)) (λ t. refl) present
over-alone lines present (Constrain name set) index = each-alone (problem_for lines (Constrain name set) (kept_alone index)) (problem_for lines (Constrain name set) (whole index)) (λ t. refl) present
over-alone lines present (Upgrade names) index = each-alone (problem_for lines (Upgrade names) (kept_alone index)) (problem_for lines (Upgrade names) (whole index)) (λ t. refl) present
over-alone lines present UpgradeAll index = each-alone (problem_for lines UpgradeAll (kept_alone index)) (problem_for lines UpgradeAll (whole index)) (λ t. refl) present
over-alone lines present Relock index = each-alone (problem_for lines Relock (kept_alone index)) (problem_for lines Relock (whole index)) (λ t. refl) present
over-alone lines present (Replace new pins) index = each-alone (problem_for lines (Replace new pins) (kept_alone index)) (problem_for lines (Replace new pins) (whole index)) (λ t. refl) present
over-alone lines present (Retarget given pins) index =
    each-alone (problem_retargeted lines present pins (kept_alone index)) (problem_retargeted lines present pins (whole index)) (λ g. refl) given

-- each problem over the whole index prefers the versions that it keeps
each-preferred : {A : Type 0} (f : A → List ℕ × ProblemParts) → ((x : A) → preferred (f x).1 ≡ (f x).1) → (xs : List A) → AllByRecursion (λ g. preferred g.1 ≡ g.1) (map f xs)
each-preferred f is [] = tt
each-preferred f is (x ∷ xs) = (is x, each-preferred f is xs)

over-preferred : (lines : List (List ℕ)) (present : List Target) (edit : Edit) (index : Index) → AllByRecursion (λ g. preferred g.1 ≡ g.1) (problems_over lines present edit (whole index))
over-preferred lines present (Add text) index = each-preferred (problem_for lines (Add text) (whole index)) (λ t. refl) present
over-preferred lines present (Remove name) index = each-preferred (problem_for lines (Remove name) (whole index)) (λ t. refl) present
over-preferred lines present (Constrain name set) index = each-preferred (problem_for lines (Constrain name set) (whole index)) (λ t. refl) present
over-preferred lines present (Upgrade names) index = each-preferred (problem_for lines (Upgrade names) (whole index)) (λ t. refl) present
over-preferred lines present UpgradeAll index = each-preferred (problem_for lines UpgradeAll (whole index)) (λ t. refl) present
over-preferred lines present Relock index = each-preferred (problem_for lines Relock (whole index)) (λ t. refl) present
over-preferred lines present (Replace new pins) index = each-preferred (problem_for lines (Replace new pins) (whole index)) (λ t. refl) present
over-preferred lines present (Retarget given pins) index = each-preferred (problem_retargeted lines present pins (whole index)) (λ g. refl) given

after-preferred : (state : StateParts) (edit : Edit) (index : Index) → AllByRecursion (λ g. preferred g.1 ≡ g.1) (problems_after state edit (whole index))
after-preferred state edit index = over-preferred (lines_after state.lines edit) state.targets edit index

after-alone : (state : StateParts) (edit : Edit) (index : Index) → problems_after state edit (kept_alone index) ≡ map alone_of (problems_after state edit (whole index))
after-alone state edit index = over-alone (lines_after state.lines edit) state.targets edit index

-- ---- an accepted edit

locked-targets : (refusal : Option Refusal) (state new : StateParts) (edit : Edit) (index : Index) → Unless refusal (Locks (Some state) (problems_after state edit (kept_alone index)) (lines_after state.lines edit)) (Ok new)
    → AllZip IsTargetLocked (problems_after state edit (kept_alone index)) new.targets
locked-targets (Some refusal) state new edit index result = absurd cc
locked-targets None state new edit index result = result.0.targets

module _ (keep : SolutionsKeepAll) (spelled : AKeptVersionIsThatOfItsRelease) where
  target-keeps : (given : List ℕ × ProblemParts) (new : Target) → IsTargetLocked (alone_of given) new → KeepsPins (alone_of given) new
  target-keeps given new locked =
      let keeps : KeepsAll given.1 (version_for (versions_of new.lock.entries)) = ((keep given.1 (version_for (versions_of new.lock.entries))).0 locked.lock.best.solution).1 in
      λ name kept version there has. spelled given.1 name kept version there (keeps name version has (rw there refl))

  targets-keep : (givens : List (List ℕ × ProblemParts)) (new : List Target) → AllZip IsTargetLocked (map alone_of givens) new → AllZip KeepsPins (map alone_of givens) new
  targets-keep [] [] zip = zip
  targets-keep [] (y ∷ ys) zip = zip
  targets-keep (x ∷ xs) [] zip = zip
  targets-keep (x ∷ xs) (y ∷ ys) zip = (target-keeps x y zip.0, targets-keep xs ys zip.1)

  pub pins-kept : (state new : StateParts) (edit : Edit) (index : Index) → EditResult state edit (kept_alone index) (Ok new) → AllZip KeepsPins (problems_after state edit (kept_alone index)) new.targets
  pins-kept state new edit index result =
      let givens = problems_after state edit (whole index) in
      let is = after-alone state edit index in
      let locked : AllZip IsTargetLocked (map alone_of givens) new.targets =
      subst (λ (l : List (List ℕ × ProblemParts)). AllZip IsTargetLocked l new.targets) is (locked-targets (refusal_of state edit) state new edit index result) in
      subst (λ (l : List (List ℕ × ProblemParts)). AllZip KeepsPins l new.targets) (sym is) (targets-keep givens new.targets locked)

-- ---- what keeps all is found

module _ (keep : SolutionsKeepAll) where
  never-unsolved : (givens : List (List ℕ × ProblemParts)) → AllByRecursion (λ g. preferred g.1 ≡ g.1) givens → ((given : List ℕ × ProblemParts) → Contains givens given → CanKeepAll given) → HasUnsolved (map alone_of givens) → ⊥
  never-unsolved givens preferring each unsolved =
      let of = Contains-map alone_of givens unsolved.0 unsolved.1 in
      let found : CanKeepAll of.0 = each of.0 of.1 in
      let none = rw (← of.2) at unsolved.2 in
      let prefers = All-member (λ (g : List ℕ × ProblemParts). preferred g.1 ≡ g.1) givens of.0 preferring of.1 in
      let solves = subst (λ (g : ProblemParts). IsSolution (rules_of g) found.0) (sym prefers) found.1 in
      none found.0 ((keep of.0.1 found.0).1 (solves, found.2))

  never-refused : (state : StateParts) (edit : Edit) (index : Index) → ((given : List ℕ × ProblemParts) → Contains (problems_after state edit (whole index)) given → CanKeepAll given)
      → Locks (Some state) (problems_after state edit (kept_alone index)) (lines_after state.lines edit) (Err NoSolution) → ⊥
  never-refused state edit index each (inr changes) = absurd cc
  never-refused state edit index each (inl unsolved) = never-unsolved (problems_after state edit (whole index)) (after-preferred state edit index) each (subst HasUnsolved (after-alone state edit index) unsolved.1)

  pub kept-found : (state : StateParts) (edit : Edit) (index : Index) → refusal_of state edit ≡ None → ((given : List ℕ × ProblemParts) → Contains (problems_after state edit (whole index)) given → CanKeepAll given)
      → EditResult state edit (kept_alone index) (Err NoSolution) → ⊥
  kept-found state edit index accepted each result = never-refused state edit index each (rw accepted at result)

-- ---- locks that keep all

module _ (best : BestKeepsAll) (needs : NeedsForgetKeptVersions) where
  dependency-alone : (given : ProblemParts) (chosen : List ℕ → Option VersionParts) (own name : List ℕ) → IsDependency given chosen own name ↔ IsDependency (alone given) chosen own name
  dependency-alone given chosen own name = (
    λ d. record { other = d.other; node = d.node; on = d.on; needed = (needs given given.kept true chosen d.node).1 d.needed; version = d.version; picked = d.picked; wanted = d.wanted; counts = d.counts; named = d.named },
    λ d. record { other = d.other; node = d.node; on = d.on; needed = (needs given given.kept true chosen d.node).0 d.needed; version = d.version; picked = d.picked; wanted = d.wanted; counts = d.counts; named = d.named },
  )

  entry-alone : (given : ProblemParts) (chosen : List ℕ → Option VersionParts) (e : EntryParts) → IsEntry given chosen e → IsEntry (alone given) chosen e
  entry-alone given chosen e is = record {
    python = is.python;
    sdist = is.sdist;
    wheels = is.wheels;
    rising = is.rising;
    dependencies = λ name. let d = dependency-alone given chosen e.name name in (λ there. d.0 ((is.dependencies name).0 there), λ k. (is.dependencies name).1 (d.1 k));
  }

  lock-alone : (given : List ℕ × ProblemParts) (new : Target) → preferred given.1 ≡ given.1 → IsTargetLocked given new → LockKeepsAll given new → IsTargetLocked (alone_of given) new
  lock-alone given new prefers is keeps =
      let versions = version_for (versions_of new.lock.entries) in
      let is_best = subst (λ (g : ProblemParts). IsBest (rules_of g) versions) (sym prefers) is.lock.best in
      let lock : IsLockOf (alone given.1) new.lock = record {
        environment = is.lock.environment;
        snapshot = is.lock.snapshot;
        rising = is.lock.rising;
        best = best given.1 versions is_best keeps;
        entries = λ e there. entry-alone given.1 versions e (is.lock.entries e there);
      } in
      record { name = is.name; environment = is.environment; lock = lock }

  locks-alone : (givens : List (List ℕ × ProblemParts)) (new : List Target) → AllByRecursion (λ g. preferred g.1 ≡ g.1) givens → AllZip IsTargetLocked givens new → AllZip LockKeepsAll givens new → AllZip IsTargetLocked (map alone_of givens) new
  locks-alone [] [] prefer zip keeps = zip
  locks-alone [] (y ∷ ys) prefer zip keeps = zip
  locks-alone (x ∷ xs) [] prefer zip keeps = zip
  locks-alone (x ∷ xs) (y ∷ ys) prefer zip keeps = (lock-alone x y prefer.0 zip.0 keeps.0, locks-alone xs ys prefer.1 zip.1 keeps.1)

  alone-unless : (refusal : Option Refusal) (state new : StateParts) (edit : Edit) (index : Index) → Unless refusal (Locks (Some state) (problems_after state edit (whole index)) (lines_after state.lines edit)) (Ok new)
      → AllZip LockKeepsAll (problems_after state edit (whole index)) new.targets → Unless refusal (Locks (Some state) (problems_after state edit (kept_alone index)) (lines_after state.lines edit)) (Ok new)
  alone-unless (Some refusal) state new edit index result keeps = result
  alone-unless None state new edit index result keeps =
      let locked = subst (λ (l : List (List ℕ × ProblemParts)). AllZip IsTargetLocked l new.targets) (sym (after-alone state edit index))
      (locks-alone (problems_after state edit (whole index)) new.targets (after-preferred state edit index) result.0.targets keeps) in
      (record { lines_are = result.0.lines_are; targets = locked }, result.1)

  pub same-locks : (state new : StateParts) (edit : Edit) (index : Index) → EditResult state edit (whole index) (Ok new) → AllZip LockKeepsAll (problems_after state edit (whole index)) new.targets
      → EditResult state edit (kept_alone index) (Ok new)
  same-locks state new edit index result keeps = alone-unless (refusal_of state edit) state new edit index result keeps
