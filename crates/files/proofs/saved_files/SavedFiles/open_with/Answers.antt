use Rattle.std.proofs.Common.{◌≡◌, ◌⊎◌, ◌∙◌, Err, Result, ap, inl, inr}
use Rattle.std.proofs.lemmas.Result.{err_from_is_err_and}
use Rattle.journal.specs.Opens.{Opens}
use Rattle.states.specs.declared.refusal.Refusal.{Refusal}
use Rattle.states.specs.declared.refusal.Refusal.TheVariants as refusals
use Rattle.inputs.specs.Faults.{fault_of}
use Rattle.inputs.specs.declared.fault.Fault.{Fault}
use Rattle.inputs.specs.declared.fault.Fault.TheVariants as faults
use Rattle.files.proofs.saved_files.SavedFiles.open_with.Goals as goal

-- what the refusal of a call that takes memory is told as
told : {A : Type 0} (Is : Result A Refusal → Type 0) (refusal : Refusal) (fault : Fault) → fault ≡ fault_of refusal
    → (refusal ≡ refusals.OutOfMemory) ⊎ Is (Err refusal)
    → (fault ≡ faults.OutOfMemory) ⊎ ((refusal : Refusal) × (fault ≡ fault_of refusal) × Is (Err refusal))
told Is refusal fault p (inl memory) = inl (p ∙ ap fault_of memory)
told Is refusal fault p (inr is) = inr (refusal, p, is)

pub returns-in_err-open : goal.returns-in_err-open
returns-in_err-open c =
    let p = err_from_is_err_and c.from_residual.result c.from_residual.ensures.1 in
    let opens = c.in_err-open.ensures.opens in
    let files = c.args.self.now in
    rw p.1 (told (Opens c.args.requirements.now files.locks.entries files.journal) _ _ p.2 opens)
