-- Kinds of errors that are none of those that are told apart.
use Rattle.std.proofs.Common.{◌≡◌, None, Ok, false, refl}
use Rattle.std.specs.declared.io.ErrorKind.{ErrorKind}
use Rattle.std.specs.declared.io.ErrorKind.TheVariants as kinds
use Rattle.inputs.specs.Errors.{nothing_unless_memory, tells_no_folder, tells_no_locks, unless_memory}
use Rattle.inputs.specs.declared.fault.Fault.{Fault}

pub unless-other : (kind : ErrorKind) (fault : Fault) → (kind ≡ kinds.OutOfMemory → ⊥) → fault ≡ unless_memory kind fault
unless-other kinds.OutOfMemory fault other = absurd (other refl)
unless-other kind fault other = refl

pub nothing-other : {A : Type 0} (kind : ErrorKind) → (kind ≡ kinds.OutOfMemory → ⊥) → Ok None ≡ nothing_unless_memory {A = A} kind
nothing-other kinds.OutOfMemory other = absurd (other refl)
nothing-other kind other = refl

pub folder-other : (kind : ErrorKind) → (kind ≡ kinds.NotFound → ⊥) → (kind ≡ kinds.NotADirectory → ⊥) → (kind ≡ kinds.InvalidFilename → ⊥) → (kind ≡ kinds.FilesystemLoop → ⊥) → false ≡ tells_no_folder kind
folder-other kinds.NotFound a b c d = absurd (a refl)
folder-other kinds.NotADirectory a b c d = absurd (b refl)
folder-other kinds.InvalidFilename a b c d = absurd (c refl)
folder-other kinds.FilesystemLoop a b c d = absurd (d refl)
folder-other kind a b c d = refl

pub locks-other : (kind : ErrorKind) → (kind ≡ kinds.Unsupported → ⊥) → (kind ≡ kinds.InvalidInput → ⊥) → false ≡ tells_no_locks kind
locks-other kinds.Unsupported a b = absurd (a refl)
locks-other kinds.InvalidInput a b = absurd (b refl)
locks-other kind a b = refl
