-- What a change makes of a state.
-- Tied to `After` by the contracts of `Change::apply` and `Change::carry`; need not be read.
use Rattle.std.specs.Prelude.{◌≡◌, ℕ, List, IsTrue}
use Rattle.pylock.specs.Packages.{EntryParts}
use Rattle.states.specs.StateParts.{StateParts}
use Rattle.changes.specs.Changes.{After, ChangeParts}
use Rattle.changes.specs.Tied.SplicedLines.{gone_by, put_by}
use Rattle.changes.specs.Tied.Whole.{LastIsEnded}
use Rattle.changes.specs.declared.change.outcome.Outcome.{Outcome}
use Rattle.states.specs.declared.target.Target.{Target}

-- the state of what was made
abbrev pub with_outcome : Outcome → StateParts
with_outcome made = record { lines = made.lines; targets = made.targets }

-- the target with this digest and these entries in the place of its lock's own
abbrev pub with_entries : Target → List ℕ → List EntryParts → Target
with_entries target digest entries = record {
  name = target.name;
  environment = target.environment;
  lock = record { environment = target.lock.environment; snapshot = digest; entries = entries };
}

-- this is what a change makes of a state, with the lines that gave way and those that it put in
pub record IsMade (old : StateParts) (change : ChangeParts) (made : Outcome) : Type 0 where
  pub after : After old change (with_outcome made)
  pub gone_is : made.gone ≡ gone_by change.splices
  pub put_is : made.put ≡ put_by change.splices
  pub ended : IsTrue made.was_ended → LastIsEnded old.lines
