use Rattle.std.proofs.Common.{◌∷◌, get_or, take}
use Rattle.std.specs.Fmt.{HasWritten, IsPlainFormatter}
use Rattle.pep440.specs.Canonical.{release_text}
use Rattle.pep440.proofs.display.write_release.Given as goal

abbrev pub invariant-loop-number : goal.invariant-loop-number
invariant-loop-number g l =
    IsPlainFormatter l.fn.f → HasWritten g.W.Write.write_str_gives l.fn.f (release_text (get_or l.release 0 0 ∷ take l.number-index l.rest)) l.f
