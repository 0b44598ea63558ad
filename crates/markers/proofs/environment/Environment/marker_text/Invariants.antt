use Rattle.std.proofs.Common.{◌≡◌, ◌++◌, codes, drop, string_bytes, take}
use Rattle.std.specs.List.{flat_map}
use Rattle.markers.specs.Environment.{all_variables, condition}
use Rattle.markers.specs.declared.variable.Variable.TheVariants.{ImplementationName}
use Rattle.markers.proofs.environment.Environment.marker_text.Given as goal

abbrev pub invariant-loop-variable : goal.invariant-loop-variable
invariant-loop-variable l = string_bytes l.marker ≡ condition l.self ImplementationName ++ flat_map (λ variable. codes " and " ++ condition l.self variable) (take l.variable-index (drop 1 all_variables))
