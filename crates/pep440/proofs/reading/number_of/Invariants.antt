use Rattle.std.proofs.Common.{◌≡◌, ◌<◌, ◌^◌, drop}
use Rattle.pep440.specs.Grammar.{value_from}
use Rattle.pep440.proofs.reading.number_of.Given as goal

abbrev pub invariant-loop-digit : goal.invariant-loop-digit
invariant-loop-digit l = record {
  whole : value_from l.value (drop l.digit-index l.digits) ≡ value_from 0 l.digits;
  small : l.value < 2 ^ 64;
}
