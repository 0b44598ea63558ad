use Rattle.std.proofs.Common.{◌≡◌, string_bytes, take}
use Rattle.exports.specs.Tied.Told.{conditions_told}
use Rattle.exports.proofs.marker_text.marker_text_of.Given as goal

abbrev pub invariant-loop-condition : goal.invariant-loop-condition
invariant-loop-condition l = string_bytes l.text ≡ conditions_told l.environment (take l.condition-index l.conditions)
