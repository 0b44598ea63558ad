use Rattle.std.proofs.Common.{◌∙◌, [], ◌∷◌, codes}
use Rattle.command_line.specs.Marks.{first_marked}
use Rattle.command_line.proofs.exclusion.missing.Goals as goal

pub returns : goal.returns
returns c = c.first_marked.ensures ∙ (λ i. first_marked ((codes "NEW, --was or --line", c.lacks_lines.ensures i) ∷ (codes "--replace", c.lacks_replacement.ensures i) ∷ (codes "--explain", c.lacks_sentences.ensures i) ∷ (codes "--init, --replace or --retarget", c.lacks_question.ensures i) ∷ []))
