-- What a refused text answers.
use Rattle.std.specs.Prelude.{ℕ, Result, Ok, Err}
use Rattle.pep440.specs.declared.fault.Fault.{Fault as SpecifierFault}
use Rattle.pep440.specs.declared.fault.Fault.TheVariants as specifier
use Rattle.markers.specs.declared.fault.Cause.{Cause}
use Rattle.markers.specs.declared.fault.Cause.TheVariants.{Specifier, OutOfMemory}
use Rattle.markers.specs.declared.fault.Fault.{Fault}

-- the cause that a fault of the specifiers is
abbrev pub cause_of : SpecifierFault → Cause
cause_of specifier.OutOfMemory = OutOfMemory
cause_of specifier.BadVersion = Specifier specifier.BadVersion
cause_of specifier.NumberTooLarge = Specifier specifier.NumberTooLarge
cause_of (specifier.BadClause k) = Specifier (specifier.BadClause k)
cause_of specifier.ArbitraryEquality = Specifier specifier.ArbitraryEquality

-- memory was refused
abbrev pub memory_fault : Fault
memory_fault = record { line = 0; cause = OutOfMemory }

-- the fault of the line with this number
abbrev pub fault_of : ℕ → Cause → Fault
fault_of number OutOfMemory = memory_fault
fault_of number cause = record { line = number; cause = cause }

-- what one text reads as, its fault on line 1
abbrev pub one_line : {A : Type 0} → Result A Cause → Result A Fault
one_line (Ok value) = Ok value
one_line (Err cause) = Err (fault_of 1 cause)

-- what is read of bytes, a fault of which concerns no line
abbrev pub no_line : {A : Type 0} → Result A Cause → Result A Fault
no_line (Ok value) = Ok value
no_line (Err cause) = Err (fault_of 0 cause)
