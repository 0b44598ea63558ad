use Rattle.std.proofs.Common.{◌∙◌, [], ◌∷◌, codes}
use Rattle.command_line.specs.Marks.{first_of_two}
use Rattle.command_line.proofs.exclusion.excluded_question.Goals as goal

pub returns : goal.returns
returns c = c.first_of_two.ensures ∙ (λ i. first_of_two ((codes "--init", c.has_flag.ensures i) ∷ (codes "--constrain <NAME> [SPEC]", c.is_given.ensures i) ∷ (codes "--upgrade [<NAME>...]", c.is_given-2.ensures i) ∷ (codes "--remove <NAME>", c.is_given-3.ensures i) ∷ (codes "--not <NAME[==VERSION]>", c.is_given-4.ensures i) ∷ (codes "--replace [<NEW>]", c.is_given-5.ensures i) ∷ (codes "--retarget", c.has_flag-2.ensures i) ∷ (codes "[TEXT]", c.is_text_alone.ensures i) ∷ []))
