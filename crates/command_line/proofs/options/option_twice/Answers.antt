use Rattle.std.proofs.Common.{◌∙◌, [], ◌∷◌, codes}
use Rattle.command_line.specs.Marks.{first_marked}
use Rattle.command_line.proofs.options.option_twice.Goals as goal

pub returns : goal.returns
returns c = c.first_marked.ensures ∙ (λ i. first_marked ((codes "--dir <DIR>", c.is_twice.ensures i) ∷ (codes "--index <FILE>", c.is_twice-2.ensures i) ∷ (codes "--keep-locked", c.is_flag_twice.ensures i) ∷ (codes "--dry-run", c.is_flag_twice-2.ensures i) ∷ (codes "--json", c.is_flag_twice-3.ensures i) ∷ (codes "--verbose", c.is_flag_twice-4.ensures i) ∷ (codes "--quiet", c.is_flag_twice-5.ensures i) ∷ (codes "--color <WHEN>", c.is_twice-3.ensures i) ∷ []))
