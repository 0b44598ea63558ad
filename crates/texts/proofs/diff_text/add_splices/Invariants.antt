use Rattle.std.proofs.Common.{drop, string_bytes}
use Rattle.texts.proofs.SplicesTold.{AreTold}
use Rattle.texts.proofs.diff_text.add_splices.Given as goal

abbrev pub invariant-loop-splice : goal.invariant-loop-splice
invariant-loop-splice l = AreTold l.style.colors (string_bytes l.fn.text) (string_bytes l.text) l.put l.taken l.splices (drop l.splice-index l.splices)
