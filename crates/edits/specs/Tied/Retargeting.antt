-- What holds of the targets that an edit names.
-- Tied to `EditResult` by the contract of `edit`; need not be read.
use Rattle.std.specs.Prelude.{◌≡◌, ◌≢◌, true, [], map}
use Rattle.lists.specs.Rising.{rises}
use Rattle.edits.specs.declared.request.Edit.{Edit}
use Rattle.edits.specs.declared.request.Edit.TheVariants.{Retarget}

-- a retarget names a target at least, and names rise
abbrev pub AreNamed : Edit → Type 0
AreNamed (Retarget given pins) = (given ≢ []) × (rises (map (λ p. p.0) given) ≡ true)
AreNamed edit = Unit {0}
