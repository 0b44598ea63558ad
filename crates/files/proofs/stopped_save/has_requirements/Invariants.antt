use Rattle.std.proofs.Common.{◌≡◌, ◌+◌, take}
use Rattle.files.specs.Beside.{has_requirements}
use Rattle.files.proofs.stopped_save.has_requirements.Given as goal

-- the states are the same, and those behind the present one have other requirements files
abbrev pub invariant-undone : goal.invariant-undone
invariant-undone l = (l.session.past.states ≡ l.fn.session.past.states) × (has_requirements (take (l.session.past.cursor + 1) l.session.past.states) l.requirements ≡ has_requirements l.session.past.states l.requirements)

abbrev pub decreases-undone : goal.decreases-undone
decreases-undone l = l.session.past.cursor
