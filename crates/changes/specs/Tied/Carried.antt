-- The state that a change leads to, as a function of the state and the change.
-- Tied to `After` by the law `a_change_leads_where_it_carries`; need not be read.
use Rattle.std.specs.Prelude.{ℕ, ◌+◌, ◌-◌, List, [], ◌∷◌, ◌++◌, drop, length, map, take, Option, Some, None}
use Rattle.changes.specs.Changes.{ChangeParts, changes_on}
use Rattle.states.specs.StateParts.{StateParts, digest_of}
use Rattle.changes.specs.Tied.ExchangedEntries.{carried_entries}
use Rattle.changes.specs.Tied.Retargeted.{carried_on, names_met, on_names}
use Rattle.changes.specs.declared.change.parts.Splice.{Splice}
use Rattle.changes.specs.declared.change.parts.TargetChange.{TargetChange}
use Rattle.changes.specs.declared.change.parts.DigestChange.{DigestChange}
use Rattle.states.specs.declared.target.Target.{Target}

-- the lines, of which the first has this place in the file, after the splices
abbrev pub carried_lines : ℕ → List Splice → List (List ℕ) → List (List ℕ)
carried_lines from [] lines = lines
carried_lines from (splice ∷ rest) lines =
    take (splice.place - from) lines ++ splice.new ++ carried_lines (splice.place + length splice.old) rest (drop (splice.place - from + length splice.old) lines)

-- the digest after its change
abbrev pub carried_digest : Option DigestChange → List ℕ → List ℕ
carried_digest None digest = digest
carried_digest (Some digests) digest = digests.new

-- the target after the change
abbrev pub carried_target : ChangeParts → Target → Target
carried_target change target = record {
  name = target.name;
  environment = target.environment;
  lock = record {
    environment = target.lock.environment;
    snapshot = carried_digest change.digests target.lock.snapshot;
    entries = carried_entries (changes_on target.name change.entries) target.lock.entries;
  };
}

-- the targets after the change
abbrev pub carried_targets : List TargetChange → ChangeParts → List Target → List Target
carried_targets [] change olds = map (carried_target change) olds
carried_targets (target ∷ targets) change olds = on_names (carried_on change (carried_digest change.digests (digest_of olds)) olds) (names_met change olds)

-- the state after the change
abbrev pub carried : StateParts → ChangeParts → StateParts
carried state change = record { lines = carried_lines 0 change.splices state.lines; targets = carried_targets change.targets change state.targets }
