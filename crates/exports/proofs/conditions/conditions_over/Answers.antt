use Rattle.exports.specs.Conditions.{IsTellable, Meets}
use Rattle.exports.proofs.EachOf.{each-back, each-ordered}
use Rattle.exports.proofs.KeptConditions.{own-met, own-tellable}
use Rattle.exports.proofs.SettledQuestions.{each-settled}
use Rattle.exports.proofs.conditions.conditions_over.Goals as goal

pub returns-clause-own : goal.returns-clause-own
returns-clause-own c =
    each-ordered (Meets c.args.environment.now c.args.environment.now) c.in_ok-least.least c.in_ok-conditions.conditions c.in_ok-conditions.ensures
    (own-met c.args.environment.now c.in_ok-least.least c.in_ok-least.ensures.own)

pub returns-clause-tellable : goal.returns-clause-tellable
returns-clause-tellable c =
    each-ordered IsTellable c.in_ok-least.least c.in_ok-conditions.conditions c.in_ok-conditions.ensures
    (own-tellable c.args.environment.now c.in_ok-least.least c.in_ok-least.ensures.own)

pub returns-clause-answers : goal.returns-clause-answers
returns-clause-answers c = λ other h.
    each-settled c.args.lines.now c.args.snapshot.now c.args.asked.now c.args.environment.now c.keep_lines.new.conditions c.keep_asked.new.conditions c.in_ok-least.least c.requires
    (rw c.new-all.ensures at c.in_ok-keep_lines.ensures) (rw c.requirements.ensures at c.in_ok-keep_asked.ensures) c.in_ok-least.ensures.said other
    (each-back (Meets c.args.environment.now other) c.in_ok-least.least c.in_ok-conditions.conditions c.in_ok-conditions.ensures h)
