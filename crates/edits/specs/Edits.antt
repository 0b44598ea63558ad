-- What edits lead to. All of it is reqlock's own rule.
use Rattle.std.specs.Prelude.{◌≡◌, ◌≢◌, ◌⊎◌, ℕ, not, List, [], map, filter, Option, Some, None, IsSomeAnd, Result, Ok, Err}
use Rattle.std.specs.List.{list_any}
use Rattle.std.specs.Option.{option_map_or, option_or}
use Rattle.std.specs.Str.{bytes_eq}
use Rattle.markers.specs.Environment.{Texts}
use Rattle.markers.specs.Names.{normal_of}
use Rattle.pep440.specs.Version.{VersionParts}
use Rattle.pep508.specs.Parts.{trim}
use Rattle.changes.specs.Changes.{target_on}
use Rattle.snapshot.specs.Packages.{Index}
use Rattle.problems.specs.Problem.{ProblemParts}
use Rattle.states.specs.Pool.{PoolParts, whole}
use Rattle.states.specs.StateParts.{StateParts}
use Rattle.states.specs.Locks.{HasUnsolved, IsLocked, given_of, versions_of}
use Rattle.states.specs.declared.target.Target.{Target}
use Rattle.edits.specs.Addition.{with_line}
use Rattle.edits.specs.LinesOnName.{with_set_on, without_line}
use Rattle.edits.specs.Refused.{refused_by_lines, refused_by_locks}
use Rattle.edits.specs.declared.request.Edit.{Edit}
use Rattle.edits.specs.Pins.{newer_of, pins_for, with_all_agreed}
use Rattle.edits.specs.declared.pins.TargetPins.{TargetPins}
use Rattle.edits.specs.declared.request.Edit.TheVariants.{Add, Constrain, Remove, Replace, Retarget, Upgrade, UpgradeAll}
use Rattle.states.specs.declared.refusal.Refusal.{Refusal}
use Rattle.states.specs.declared.refusal.Refusal.TheVariants.{NoSolution, NothingChanges}

-- the new state is another than the old one
abbrev pub IsNew : Option StateParts → StateParts → Type 0
IsNew old state = old ≢ Some state

-- what lines lead to by the problems of their targets, with the old state, where there is one: the state of the lines in which each
-- target has its problem's lock; that a problem has no solution; or that this state is the old one, to the byte of each line, the
-- index's digest and the text of each entry
abbrev pub Locks : Option StateParts → List (List ℕ × ProblemParts) → List (List ℕ) → Result StateParts Refusal → Type 0
Locks old givens lines (Ok state) = IsLocked givens lines state × IsNew old state
Locks old givens lines (Err refusal) =
    ((refusal ≡ NoSolution) × HasUnsolved givens) ⊎ ((refusal ≡ NothingChanges) × IsSomeAnd old (IsLocked givens lines))

-- the problem that a history begins with in a named environment: the versions that are handed in for its target are kept
abbrev pub first_problem : List (List ℕ) → List TargetPins → Index → List ℕ × Texts → List ℕ × ProblemParts
first_problem lines pins index target = (target.0, given_of lines target.1 (whole index) (newer_of index [] (pins_for pins target.0)))

-- what a history of these lines begins with in named environments, where these versions are handed in: there is no old state
abbrev pub FirstResult : List (List ℕ) → List (List ℕ × Texts) → List TargetPins → Index → Result StateParts Refusal → Type 0
FirstResult lines targets pins index answer = Locks None (map (first_problem lines pins index) targets) lines answer

-- the same where none is handed in, so that none is kept
abbrev pub InitResult : List (List ℕ) → List (List ℕ × Texts) → Index → Result StateParts Refusal → Type 0
InitResult lines targets index answer = FirstResult lines targets [] index answer

-- the first refusal that lines and locks alone give
abbrev pub refusal_of : StateParts → Edit → Option Refusal
refusal_of state edit = option_or (refused_by_lines state.lines edit) (refused_by_locks state.targets edit)

-- the lines after an edit
abbrev pub lines_after : List (List ℕ) → Edit → List (List ℕ)
lines_after lines (Add text) = with_line lines text
lines_after lines (Remove name) = without_line (normal_of name) lines
lines_after lines (Constrain name specifiers) = with_set_on (normal_of name) (trim specifiers) lines
lines_after lines (Replace new pins) = new
lines_after lines edit = lines

-- the names with versions, without those named
abbrev pub without_pins : List (List ℕ) → List (List ℕ × VersionParts) → List (List ℕ × VersionParts)
without_pins names pins = filter (λ pin. not (list_any (bytes_eq pin.0) names)) pins

-- the versions that an edit over an index keeps for a target: those of its lock, without those that an upgrade drops, or with newer
-- ones that are handed in for it
abbrev pub kept_pins : Index → Target → Edit → List (List ℕ × VersionParts)
kept_pins index target (Upgrade names) = without_pins (map normal_of names) (versions_of target.lock.entries)
kept_pins index target UpgradeAll = []
kept_pins index target (Replace lines pins) = newer_of index (versions_of target.lock.entries) (pins_for pins target.name)
kept_pins index target edit = versions_of target.lock.entries

-- the problem whose best solution an edit locks for a target, under its name: that of the lines after the edit in the target's
-- environment over the index, with the versions that the edit keeps for the target, alone or before others
abbrev pub problem_for : List (List ℕ) → Edit → PoolParts → Target → List ℕ × ProblemParts
problem_for lines edit pool target = (target.name, given_of lines target.environment pool (kept_pins pool.index target edit))

-- the versions that a target keeps which is named for a retarget: one whose name is there already keeps those of its lock; another one
-- those that are handed in for it, and of the names that these lack what the targets that are there have locked, where none
-- contradicts it
abbrev pub kept_retargeted : Index → List Target → List TargetPins → List ℕ × Texts → List (List ℕ × VersionParts)
kept_retargeted index present pins given =
    option_map_or (λ (t : Target). versions_of t.lock.entries) (target_on present given.0) (with_all_agreed present (newer_of index [] (pins_for pins given.0)))

-- its problem, under its name
abbrev pub problem_retargeted : List (List ℕ) → List Target → List TargetPins → PoolParts → List ℕ × Texts → List ℕ × ProblemParts
problem_retargeted lines present pins pool given = (given.0, given_of lines given.1 pool (kept_retargeted pool.index present pins given))

-- the problems of an edit with these lines, one for each target: of a retarget for those that it names, else for those that are there
abbrev pub problems_over : List (List ℕ) → List Target → Edit → PoolParts → List (List ℕ × ProblemParts)
problems_over lines present (Retarget given pins) pool = map (problem_retargeted lines present pins pool) given
problems_over lines present edit pool = map (problem_for lines edit pool) present

-- the problems of an edit
abbrev pub problems_after : StateParts → Edit → PoolParts → List (List ℕ × ProblemParts)
problems_after state edit pool = problems_over (lines_after state.lines edit) state.targets edit pool

-- this is answered where a refusal applies, and else what else is
abbrev pub Unless : Option Refusal → (Result StateParts Refusal → Type 0) → Result StateParts Refusal → Type 0
Unless (Some refusal) otherwise answer = answer ≡ Err refusal
Unless None otherwise answer = otherwise answer

-- what an edit answers, memory aside: the first refusal that lines and locks give, else what the edited lines lead to by the
-- problems of the targets
abbrev pub EditResult : StateParts → Edit → PoolParts → Result StateParts Refusal → Type 0
EditResult state edit pool answer =
    Unless (refusal_of state edit) (Locks (Some state) (problems_after state edit pool) (lines_after state.lines edit)) answer
