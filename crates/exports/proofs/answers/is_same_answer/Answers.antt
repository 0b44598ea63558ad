use Rattle.std.proofs.Common.{ap, sym}
use Rattle.exports.specs.Tied.Answers.{is_same_answer}
use Rattle.exports.proofs.answers.is_same_answer.Goals as goal

pub returns-then-answer : goal.returns-then-answer
returns-then-answer c = ap (λ b. is_same_answer b c.args.other) (sym c.if-answer.true)

pub returns-else-answer : goal.returns-else-answer
returns-else-answer c = ap (λ b. is_same_answer b c.args.other) (sym c.if-answer.false)
