use Rattle.std.proofs.Common.{◌∙◌, sym, arith}
use Rattle.std.proofs.lemmas.Grind.{common_steps}
use Rattle.std.proofs.lemmas.List.{at_drop_all}
use Rattle.changes.specs.Tied.Whole.{are_whole}
use Rattle.changes.proofs.change.file.are_whole.Goals as goal

pub returns : goal.returns
returns c = sym (sym c.loop-place.invariant ∙ at_drop_all are_whole c.args.lines.now c.loop-place.place c.loop-place-test.false)

pub loop-place-preserved : goal.loop-place-preserved
loop-place-preserved c = grind (arith, common_steps)

pub returns-then-not-is_whole : goal.returns-then-not-is_whole
returns-then-not-is_whole c = grind (arith, common_steps)
