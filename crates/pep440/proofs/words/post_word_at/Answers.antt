use Rattle.std.proofs.Common.{arith}
use Rattle.std.proofs.lemmas.Grind.{common_steps}
use Rattle.pep440.proofs.words.post_word_at.Goals as goal

pub returns-in-112 : goal.returns-in-112
returns-in-112 c = grind (arith, common_steps)

pub returns-in-114 : goal.returns-in-114
returns-in-114 c = grind (arith, common_steps)
