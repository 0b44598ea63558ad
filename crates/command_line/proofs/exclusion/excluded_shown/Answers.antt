use Rattle.std.proofs.Common.{◌∙◌, [], ◌∷◌, codes}
use Rattle.command_line.specs.Marks.{first_of_two}
use Rattle.command_line.proofs.exclusion.excluded_shown.Goals as goal

pub returns : goal.returns
returns c = c.first_of_two.ensures ∙ (λ i. first_of_two ((codes "--tree", c.has_flag.ensures i) ∷ (codes "[NAME]", c.has_value.ensures i) ∷ []))
