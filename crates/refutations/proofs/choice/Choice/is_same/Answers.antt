use Rattle.std.proofs.Common.{◌∙◌}
use Rattle.refutations.proofs.EqualChoices.{choices-tied}
use Rattle.refutations.proofs.choice.Choice.is_same.Goals as goal

pub returns-clause-equal : goal.returns-clause-equal
returns-clause-equal c = c.are_one.ensures ∙ choices-tied c.args.self.now c.args.other.now
