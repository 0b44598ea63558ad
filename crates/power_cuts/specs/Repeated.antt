-- Repairs of a stopped save that were themselves stopped. All of it is reqlock's own rule.
use Rattle.std.specs.Prelude.{◌≡◌, ℕ, zero, suc}
use Rattle.folder.specs.Held.{Held}
use Rattle.files.specs.Repair.{IsRepairOf}

-- so many in turn, each ended or stopped
abbrev pub AreRepairs : ℕ → Held → Held → Type 0
AreRepairs zero left now = now ≡ left
AreRepairs (suc more) left now = (between : Held) × IsRepairOf ⊥ left between × AreRepairs more between now

-- any number of repairs come to one
abbrev pub RepairsComeToOne : Type 0
RepairsComeToOne = (number : ℕ) (left now : Held) → AreRepairs number left now → IsRepairOf ⊥ left now
