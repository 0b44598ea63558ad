use Rattle.std.proofs.Common.{◌≡◌, ◌++◌, drop, string_bytes}
use Rattle.markers.specs.Tied.Names.{normal_read}
use Rattle.markers.proofs.name.normal_form.Given as goal

abbrev pub invariant-loop-place : goal.invariant-loop-place
invariant-loop-place l = normal_read l.name ≡ string_bytes l.normal ++ normal_read (drop l.place l.name)
