use Rattle.std.proofs.Common.{◌≡◌, ◌++◌, drop, take}
use Rattle.pep440.specs.Tied.Reading.{after_release, release_of}
use Rattle.pep440.proofs.spans.cut_release.Given as goal

abbrev pub invariant-loop-i : goal.invariant-loop-i
invariant-loop-i l = record {
  release : take l.i l.text ++ release_of (drop l.i l.text) ≡ release_of l.text;
  rest : after_release (drop l.i l.text) ≡ after_release l.text;
}
