use Rattle.std.proofs.Common.{◌∙◌, [], ◌∷◌, codes}
use Rattle.command_line.specs.Marks.{first_of_two}
use Rattle.command_line.proofs.exclusion.excluded_beginning.Goals as goal

pub returns : goal.returns
returns c = c.first_of_two.ensures ∙ (λ i. first_of_two ((codes "--before <N>", c.is_given.ensures i) ∷ (codes "--keep <N>", c.is_given-2.ensures i) ∷ []))
