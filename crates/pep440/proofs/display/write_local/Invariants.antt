use Rattle.std.proofs.Common.{[], ◌∷◌, get_or, take}
use Rattle.std.specs.Fmt.{HasWritten, IsPlainFormatter}
use Rattle.pep440.specs.Canonical.{local_text}
use Rattle.pep440.specs.declared.parts.LocalPart.TheVariants.{Word}
use Rattle.pep440.proofs.display.write_local.Given as goal

abbrev pub invariant-loop-part : goal.invariant-loop-part
invariant-loop-part g l =
    IsPlainFormatter l.fn.f → HasWritten g.W.Write.write_str_gives l.fn.f (local_text (get_or l.local 0 (Word []) ∷ take l.part-index l.rest)) l.f
