use Rattle.std.proofs.Common.{◌≡◌, true, is_some, refl}
use Rattle.markers.specs.Comparisons.{version_read}
use Rattle.markers.specs.Environment.{text_of}
use Rattle.markers.specs.declared.variable.Variable.TheVariants.{PythonFullVersion}
use Rattle.markers.proofs.EnvironmentFacts.{versioned_reads}
use Rattle.markers.proofs.environment.Environment.full_version.Goals as goal

pub unreachable-requires : goal.unreachable-requires
unreachable-requires c =
    let absent = rw c.in-None.is at c.version.ensures in
    let reads : is_some (version_read (text_of c.args.self.now PythonFullVersion)) ≡ true = rw (← c.self.view_is) (versioned_reads PythonFullVersion _ refl (c.self.invariant.lawful PythonFullVersion)) in
    let contrary = rw (← absent) at reads in
    cc
