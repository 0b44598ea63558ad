use Rattle.std.proofs.Common.{arith}
use Rattle.std.proofs.lemmas.Grind.{common_steps}
use Rattle.pep440.proofs.words.pre_word_at.Goals as goal

pub returns-in_err-rest-in-112 : goal.returns-in_err-rest-in-112
returns-in_err-rest-in-112 c = grind (arith, common_steps)

pub returns-in-97 : goal.returns-in-97
returns-in-97 c = grind (arith, common_steps)

pub returns-in-98 : goal.returns-in-98
returns-in-98 c = grind (arith, common_steps)

pub returns-in-99 : goal.returns-in-99
returns-in-99 c = grind (arith, common_steps)

pub returns-in_ok-strip_word-in-114 : goal.returns-in_ok-strip_word-in-114
returns-in_ok-strip_word-in-114 c = grind (arith, common_steps)

pub returns-in_ok-rest-in-112 : goal.returns-in_ok-rest-in-112
returns-in_ok-rest-in-112 c = grind (arith, common_steps)
