-- Which stream a fault of a batch is of. All of it is reqlock's own rule.
use Rattle.std.specs.Prelude.{◌≡◌, Bool, true, false, Result, Ok, Err, IfErr, is_err}
use Rattle.commands.specs.declared.batch.StreamFault.{StreamFault}
use Rattle.commands.specs.declared.batch.StreamFault.TheVariants.{Read, Write, OutOfMemory}

-- whether a batch answers that a read failed
abbrev pub is_failed_read : {T : Type 0} → Result T StreamFault → Bool
is_failed_read (Ok value) = false
is_failed_read (Err Read) = true
is_failed_read (Err Write) = false
is_failed_read (Err OutOfMemory) = false

-- whether a batch answers that a write failed
abbrev pub is_failed_write : {T : Type 0} → Result T StreamFault → Bool
is_failed_write (Ok value) = false
is_failed_write (Err Read) = false
is_failed_write (Err Write) = true
is_failed_write (Err OutOfMemory) = false

-- what calls on a sink alone come to, by whether it has failed
pub record IsOfSink {T : Type 0} (result : Result T StreamFault) (has_failed : Bool) : Type 0 where
  pub failure : has_failed ≡ is_err result
  pub fault : IfErr result (λ e. e ≡ Write)
