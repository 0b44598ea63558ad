use Rattle.std.proofs.Common.{sym, subst}
use Rattle.states.proofs.PartFacts.{AllByRecursion-at, not-so}
use Rattle.changes.proofs.change.minimal.are_parts.Goals as goal

pub returns-then-not-is_part : goal.returns-then-not-is_part
returns-then-not-is_part g c =
    let here = λ (all : _). subst g.T.Part.IsPart (sym c.part-item.is) (AllByRecursion-at g.T.Part.IsPart c.args.parts.now c.loop-part.part-index c.part-item.result c.loop-part-test.true all) in
    (λ h. absurd (not-so h), λ all. c.if-not-is_part.ensures.1 (here all))
