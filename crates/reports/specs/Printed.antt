-- What is written of a text that is printed. All of it is reqlock's own rule.
use Rattle.std.specs.Prelude.{◌≡◌, ℕ, Bool, true, false, List, Option, Result, Ok, Err}
use Rattle.std.specs.Io.KnownBytes.{Appends}
use Rattle.std.specs.declared.io.ErrorKind.{ErrorKind}
use Rattle.std.specs.declared.io.ErrorKind.TheVariants as kinds
use Rattle.commands.specs.Runs.{IsCutOff}
use Rattle.commands.specs.declared.batch.StreamFault.{StreamFault}
use Rattle.commands.specs.declared.batch.StreamFault.TheVariants.{Write}

-- a text that people read was written whole; or something of it is missing, since its reader has closed the output or a write failed
abbrev pub IsShown : List ℕ → Result Bool StreamFault → Option (List ℕ) → Option (List ℕ) → Type 0
IsShown text (Ok true) before after = Appends before after text
IsShown text (Ok false) before after = IsCutOff text before after
IsShown text (Err fault) before after = (fault ≡ Write) × IsCutOff text before after

-- an error of this kind tells that who reads the output has closed it
abbrev pub tells_closed : ErrorKind → Bool
tells_closed kinds.BrokenPipe = true
tells_closed kind = false
