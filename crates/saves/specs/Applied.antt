-- How a call goes on from a command, or stops at it. All of it is reqlock's own rule.
use Rattle.std.specs.Prelude.{◌≡◌, ◌⊎◌, Bool}
use Rattle.stops.specs.Stops.{stop_of}
use Rattle.stops.specs.declared.stop.Stop.{Stop}
use Rattle.stops.specs.declared.stop.Stop.TheVariants as stops
use Rattle.commands.specs.Needed.{IsApplied}
use Rattle.commands.specs.declared.batch.StreamFault.TheVariants as streams
use Rattle.inputs.specs.Faults.{fault_of}
use Rattle.journal.specs.Commands.{Asked}
use Rattle.journal.specs.Past.{Past}
use Rattle.journal.specs.Values.{Refusal}
use Rattle.journal.specs.declared.commands.Reply.{Reply}
use Rattle.journal.specs.declared.commands.Reply.TheVariants.{Done, Same, Refused}

-- a reply that refuses nothing
abbrev pub IsNoRefusal : Reply → Type 0
IsNoRefusal (Done cursor) = Unit {0}
IsNoRefusal Same = Unit {0}
IsNoRefusal (Refused refusal) = ⊥

-- a call goes on with the reply to its command, which isn't refused; an edit may be made only if it is needed
abbrev pub GoesOn : Bool → Past → Asked → Past → Reply → Type 0
GoesOn only_if_needed old asked new reply = IsApplied only_if_needed old asked reply new × IsNoRefusal reply

-- a call stops at its command as the refusal says, or for want of memory
abbrev pub StopsAt : Bool → Past → Asked → Past → Stop → Type 0
StopsAt only_if_needed old asked new stop =
    (stop ≡ stops.Fault streams.OutOfMemory)
    ⊎ ((refusal : Refusal) × IsApplied only_if_needed old asked (Refused refusal) new × (stop ≡ stop_of (fault_of refusal)))
