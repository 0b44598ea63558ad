use Rattle.pep440.proofs.SetAnswersOnce.{set-answers, set-read}
use Rattle.pep440.proofs.laws.a_set_has_one_answer.Goals as goal

pub returns-clause-answers : goal.returns-clause-answers
returns-clause-answers c = set-answers

pub returns-clause-one : goal.returns-clause-one
returns-clause-one c = set-read
