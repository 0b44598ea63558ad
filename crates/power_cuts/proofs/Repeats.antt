-- Repairs in turn come to one.
use Rattle.std.proofs.Common.{ℕ, zero, suc, subst, sym}
use Rattle.folder.specs.Held.{Held}
use Rattle.files.specs.Repair.{IsRepairOf}
use Rattle.files.proofs.FolderRuns.{repair_none, repair_twice}
use Rattle.power_cuts.specs.Repeated.{AreRepairs}

pub come-to-one : (number : ℕ) (left now : Held) → AreRepairs number left now → IsRepairOf ⊥ left now
come-to-one zero left now same = subst (λ (h : Held). IsRepairOf ⊥ left h) (sym same) (repair_none ⊥ left)
come-to-one (suc more) left now repairs = repair_twice ⊥ left repairs.0 now repairs.1 (come-to-one more repairs.0 now repairs.2)
