use Rattle.std.proofs.Common.{◌∙◌, sym, arith}
use Rattle.std.proofs.lemmas.Grind.{common_steps}
use Rattle.pep440.proofs.SpansRead.{strip-short}
use Rattle.pep440.proofs.words.strip_word.Goals as goal

pub returns-then-i-text : goal.returns-then-i-text
returns-then-i-text c = sym (strip-short c.args.word.now c.args.text.now c.loop-i.i c.loop-i-test.true c.if-i-text.true) ∙ c.loop-i.invariant.1

pub returns-then-to_ascii_lowercase-word : goal.returns-then-to_ascii_lowercase-word
returns-then-to_ascii_lowercase-word c = grind (arith, common_steps)

pub loop-i-preserved : goal.loop-i-preserved
loop-i-preserved c = grind (arith, common_steps)

pub returns : goal.returns
returns c = grind (arith, common_steps)
