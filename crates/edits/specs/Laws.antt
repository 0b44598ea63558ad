-- Laws of edits beside whose kept versions no others count.
use Rattle.std.specs.Prelude.{◌≡◌, ℕ, true, List, Option, Some, None, Ok, Err}
use Rattle.std.specs.List.{AllZip, Contains}
use Rattle.pep440.specs.Version.{VersionParts}
use Rattle.search.specs.Solutions.{Solution as IsSolution}
use Rattle.snapshot.specs.Packages.{Index}
use Rattle.problems.specs.Laws.{KeepsAll}
use Rattle.problems.specs.Problem.{ProblemParts}
use Rattle.problems.specs.Rules.{rules_of, same_version}
use Rattle.problems.specs.Solutions.{version_for}
use Rattle.states.specs.Locks.{versions_of}
use Rattle.states.specs.Pool.{kept_alone, whole}
use Rattle.states.specs.StateParts.{StateParts}
use Rattle.states.specs.declared.refusal.Refusal.TheVariants.{NoSolution}
use Rattle.states.specs.declared.target.Target.{Target}
use Rattle.edits.specs.Edits.{EditResult, problems_after, refusal_of}
use Rattle.edits.specs.declared.request.Edit.{Edit}

-- of each name whose version a problem keeps and that the lock has, it has that version
abbrev pub KeepsPins : List ℕ × ProblemParts → Target → Type 0
KeepsPins given target =
    (name : List ℕ) (kept version : VersionParts) → version_for given.1.kept name ≡ Some kept → version_for (versions_of target.lock.entries) name ≡ Some version → same_version kept version ≡ true

-- no edit over `kept_alone` moves a version that it keeps
abbrev pub EditsKeepPins : Type 0
EditsKeepPins = (state new : StateParts) (edit : Edit) (index : Index) → EditResult state edit (kept_alone index) (Ok new) → AllZip KeepsPins (problems_after state edit (kept_alone index)) new.targets

-- some solution of the problem keeps all
abbrev pub CanKeepAll : List ℕ × ProblemParts → Type 0
CanKeepAll given = (s : List ℕ → Option VersionParts) × IsSolution (rules_of given.1) s × KeepsAll given.1 s

-- where each problem has a solution that keeps all, the edit over `kept_alone` has one
abbrev pub EditsFindWhatKeepsAll : Type 0
EditsFindWhatKeepsAll =
    (state : StateParts) (edit : Edit) (index : Index) → refusal_of state edit ≡ None → ((given : List ℕ × ProblemParts) → Contains (problems_after state edit (whole index)) given → CanKeepAll given)
    → EditResult state edit (kept_alone index) (Err NoSolution) → ⊥

-- the lock of a target keeps all versions that its problem does
abbrev pub LockKeepsAll : List ℕ × ProblemParts → Target → Type 0
LockKeepsAll given target = KeepsAll given.1 (version_for (versions_of target.lock.entries))

-- where the best locks keep all, they are those of the edit over `kept_alone`
abbrev pub EditsThatKeepAllAreOne : Type 0
EditsThatKeepAllAreOne =
    (state new : StateParts) (edit : Edit) (index : Index) → EditResult state edit (whole index) (Ok new) → AllZip LockKeepsAll (problems_after state edit (whole index)) new.targets
    → EditResult state edit (kept_alone index) (Ok new)
