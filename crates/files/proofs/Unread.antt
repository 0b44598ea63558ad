-- Why a file isn't read.
use Rattle.std.proofs.Common.{◌≡◌, ◌⊎◌, ℕ, Bool, List, None, Result, Err, IfErr, subst, sym, inl, inr, refl}
use Rattle.std.specs.Bool.{⊤}
use Rattle.std.specs.IoError.{error_kind}
use Rattle.std.specs.declared.io.Error.{Error}
use Rattle.std.specs.declared.io.ErrorKind.{ErrorKind}
use Rattle.std.specs.declared.io.ErrorKind.TheVariants as kinds
use Rattle.inputs.specs.Errors.{read_as, unless_memory}
use Rattle.inputs.specs.declared.fault.Fault.{Fault}
use Rattle.inputs.specs.declared.fault.Fault.TheVariants.{Input, OutOfMemory}
use Rattle.inputs.specs.declared.input_files.InputFault.TheVariants.{Unreadable}
use Rattle.inputs.specs.declared.input_files.InputFile.{InputFile}
use Rattle.inputs.specs.declared.unread.Unread.TheVariants.{At}
use Rattle.files.specs.Places.{IsUnread}

either : (kind : ErrorKind) (fault : Fault) → (unless_memory kind fault ≡ OutOfMemory) ⊎ (unless_memory kind fault ≡ fault)
either kinds.OutOfMemory fault = inl refl
either kind fault = inr refl

-- what the system tells of a path is why the file isn't read
pub unread_at : (A : Type 0) (is_beside : Bool) (file : InputFile) (path : List ℕ) (error : Error) (result : Result A Fault) → result ≡ read_as file path (Err error) → IfErr result (IsUnread None ⊤ is_beside file)
unread_at A is_beside file path error result is = subst (λ (r : Result A Fault). IfErr r (IsUnread None ⊤ is_beside file)) (sym is) (elim (either (error_kind error) (Input file (Unreadable (At path error)))) [
  | inl memory ↦ inl memory
  | inr other ↦ inr ((At path error, other), inr tt)
])
