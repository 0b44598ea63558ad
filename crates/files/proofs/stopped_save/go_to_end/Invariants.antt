use Rattle.std.proofs.Common.{◌≡◌, ◌-◌, length}
use Rattle.files.proofs.stopped_save.go_to_end.Given as goal

-- the states are the same
abbrev pub invariant-redone : goal.invariant-redone
invariant-redone l = l.session.past.states ≡ l.initial.session.past.states

abbrev pub decreases-redone : goal.decreases-redone
decreases-redone l = length l.session.past.states - l.session.past.cursor
