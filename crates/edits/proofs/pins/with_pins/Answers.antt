use Rattle.std.proofs.Common.{◌≡◌, IfOk, subst}
use Rattle.edits.specs.Pins.{pins_for}
use Rattle.edits.proofs.NewerVersions.{Pins, newer-made}
use Rattle.edits.proofs.pins.with_pins.Goals as goal

pub returns : goal.returns
returns c =
    let made = newer-made c.args.snapshot.now c.args.versions.entries (pins_for c.args.pins.now c.args.target.now) c.names_rise.ensures in
    subst (λ (pins : Pins). IfOk c.with_all.result (λ all. all.entries ≡ pins)) made c.with_all.ensures
