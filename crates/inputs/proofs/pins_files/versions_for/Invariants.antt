use Rattle.std.proofs.Common.{◌≡◌, ◌++◌, drop, filter, flat_map}
use Rattle.inputs.specs.Pins.{pins_in}
use Rattle.inputs.specs.PinsFiles.{is_for, versions_for}
use Rattle.inputs.proofs.pins_files.versions_for.Given as goal

abbrev pub invariant-loop-file : goal.invariant-loop-file
invariant-loop-file l =
    l.all.items ++ flat_map (λ f. pins_in l.target.environment.now f.file) (filter (is_for l.has_own l.target.name.now) (drop l.file-index l.files))
    ≡ versions_for l.files l.target.name.now l.target.environment.now
