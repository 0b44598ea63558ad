use Rattle.std.proofs.Common.{◌≡◌, ◌++◌, ◌^◌, ◌<◌, drop, true}
use Rattle.std.specs.List.{list_all}
use Rattle.std.specs.Prelude.{nat_lt}
use Rattle.pep440.specs.Tied.Reading.{numbers_from}
use Rattle.pep440.proofs.reading.release_numbers.Given as goal

abbrev pub invariant-loop-byte : goal.invariant-loop-byte
invariant-loop-byte l = record {
  whole : l.numbers.items ++ numbers_from l.value (drop l.byte-index l.text) ≡ numbers_from 0 l.text;
  small : l.value < 2 ^ 64;
  fit : list_all (λ n. nat_lt n (2 ^ 64)) l.numbers.items ≡ true;
}
