use Rattle.std.proofs.Common.{◌∙◌, [], ◌∷◌, codes}
use Rattle.command_line.specs.Marks.{first_of_two}
use Rattle.command_line.proofs.exclusion.excluded_verbosity.Goals as goal

pub returns : goal.returns
returns c = c.first_of_two.ensures ∙ (λ i. first_of_two ((codes "--quiet", c.is_flagged.ensures i) ∷ (codes "--verbose", c.is_flagged-2.ensures i) ∷ []))
