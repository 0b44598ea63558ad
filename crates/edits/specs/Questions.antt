-- The problems of questions that are no edits of a state. All of it is reqlock's own rule.
use Rattle.std.specs.Prelude.{ℕ, List, map, Option, Some, None}
use Rattle.std.specs.BTreeMap.{insert_entry}
use Rattle.std.specs.Cmp.Lexicographic.{slice_cmp}
use Rattle.std.specs.Ordering.{nat_cmp}
use Rattle.pep440.specs.Version.{VersionParts}
use Rattle.pep508.specs.Requirement.{RequirementParts}
use Rattle.snapshot.specs.Packages.{Index}
use Rattle.problems.specs.Problem.{ProblemParts}
use Rattle.states.specs.Locks.{given_of, versions_of}
use Rattle.states.specs.Pool.{whole}
use Rattle.states.specs.StateParts.{StateParts}
use Rattle.edits.specs.Addition.{with_line}
use Rattle.edits.specs.Edits.{problem_for}
use Rattle.edits.specs.declared.request.Edit.TheVariants.{Relock}
use Rattle.states.specs.declared.target.Target.{Target}
use Rattle.states.specs.declared.refusal.Refusal.{Refusal}
use Rattle.states.specs.declared.refusal.Refusal.TheVariants.{BadText}

-- of a text that is to be one requirement more, given what it requires
abbrev pub refused_requirement : Option RequirementParts → Option Refusal
refused_requirement None = Some BadText
refused_requirement (Some wanted) = None

-- the problems of a relock with one requirement more, whether a line has its name or not; each lock keeps its versions
abbrev pub problems_with : StateParts → List ℕ → Index → List (List ℕ × ProblemParts)
problems_with state text index = map (problem_for (with_line state.lines text) Relock (whole index)) state.targets

-- the problem of a relock of a target that keeps a release in the place of what its lock has of the name; no line asks for it
abbrev pub problem_keeping : StateParts → Target → List ℕ → VersionParts → Index → ProblemParts
problem_keeping state target name version index =
    given_of state.lines target.environment (whole index) (insert_entry (slice_cmp nat_cmp) (versions_of target.lock.entries) name version)
