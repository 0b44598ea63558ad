use Rattle.std.proofs.Common.{take}
use Rattle.snapshot.specs.Shape.{text_of}
use Rattle.snapshot.specs.Tied.Meaning.{EachMeans}
use Rattle.snapshot.proofs.pass.release.texts_of.Given as goal

abbrev pub invariant-loop-place : goal.invariant-loop-place
invariant-loop-place l = EachMeans text_of (take l.place l.values) l.texts.items
