-- How a call stops at a fault of its files. All of it is reqlock's own rule.
use Rattle.std.specs.Prelude.{◌≡◌, Result, Ok, Err}
use Rattle.clap.specs.Words.{kind_of}
use Rattle.clap.specs.declared.error.kind.ErrorKind.{ErrorKind}
use Rattle.command_line.specs.declared.usage.RequestFault.{RequestFault}
use Rattle.command_line.specs.declared.usage.RequestFault.TheVariants as requests
use Rattle.commands.specs.declared.batch.StreamFault.TheVariants as streams
use Rattle.inputs.specs.Faults.{fault_of}
use Rattle.inputs.specs.declared.fault.Fault.{Fault}
use Rattle.inputs.specs.declared.fault.Fault.TheVariants as faults
use Rattle.journal.specs.declared.commands.Reply.{Reply}
use Rattle.journal.specs.declared.commands.Reply.TheVariants.{Done, Same, Refused}
use Rattle.stops.specs.declared.stop.Stop.{Stop}
use Rattle.stops.specs.declared.stop.Stop.TheVariants as stops

-- how a call stops at a fault of the files
abbrev pub stop_of : Fault → Stop
stop_of (faults.Input file fault) = stops.Input file fault
stop_of (faults.Unwritten file) = stops.Unwritten file
stop_of (faults.Refused refusal) = stops.Refused refusal
stop_of (faults.NoTarget name) = stops.NoTarget name
stop_of faults.OutOfMemory = stops.Fault streams.OutOfMemory

-- how a call goes on from the reply to its command: with the reply, unless it is a refusal
abbrev pub unless_refused : Reply → Result Reply Stop
unless_refused (Refused refusal) = Err (stop_of (fault_of refusal))
unless_refused Same = Ok Same
unless_refused (Done cursor) = Ok (Done cursor)

-- a call stops at a text of this kind, or for want of memory
abbrev pub IsUsage : ErrorKind → Stop → Type 0
IsUsage kind (stops.Usage usage) = usage.kind ≡ kind
IsUsage kind stop = stop ≡ stops.Fault streams.OutOfMemory

-- how a call stops at words that are no request
abbrev pub IsStopOfRequest : RequestFault → Stop → Type 0
IsStopOfRequest (requests.Usage error) stop = IsUsage (kind_of error) stop
IsStopOfRequest (requests.Needed option) stop = stop ≡ stops.Needed option
IsStopOfRequest requests.OutOfMemory stop = stop ≡ stops.Fault streams.OutOfMemory
