use Rattle.std.proofs.Common.{◌∙◌, [], ◌∷◌, codes}
use Rattle.command_line.specs.Marks.{first_of_two}
use Rattle.command_line.proofs.exclusion.excluded_lines.Goals as goal

pub returns : goal.returns
returns c = c.first_of_two.ensures ∙ (λ i. first_of_two ((codes "[NEW]", c.has_value.ensures i) ∷ (codes "--replace [<NEW>]", c.has_value-2.ensures i) ∷ (codes "--was <OLD>", c.is_given.ensures i) ∷ (codes "--line <NAME> <TEXT>", c.is_given-2.ensures i) ∷ []))
