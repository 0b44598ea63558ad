use Rattle.std.proofs.Common.{◌≡◌, ◌++◌, drop, take}
use Rattle.pep440.specs.Tied.Reading.{after_digits, digits_of}
use Rattle.pep440.proofs.words.cut_digits.Given as goal

abbrev pub invariant-loop-i : goal.invariant-loop-i
invariant-loop-i l = record {
  digits : take l.i l.text ++ digits_of (drop l.i l.text) ≡ digits_of l.text;
  rest : after_digits (drop l.i l.text) ≡ after_digits l.text;
}
