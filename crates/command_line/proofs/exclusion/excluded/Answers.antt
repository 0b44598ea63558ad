use Rattle.std.proofs.Common.{◌∙◌, ap, ap₂}
use Rattle.std.specs.Option.{option_or}
use Rattle.command_line.specs.Options.{text_of}
use Rattle.command_line.proofs.Requests.{text_of_either}
use Rattle.command_line.proofs.exclusion.excluded.Goals as goal

pub returns : goal.returns
returns c =
    let lines = ap text_of c.or-lines.ensures ∙ text_of_either _ _ ∙ ap₂ option_or c.excluded_lines.ensures c.excluded_beginning.ensures in
    let other = ap text_of c.or-other.ensures ∙ text_of_either _ _ ∙ ap₂ option_or c.excluded_question.ensures lines in
    let shown = ap text_of c.or.ensures ∙ text_of_either _ _ ∙ ap₂ option_or c.excluded_shown.ensures other in
    ap text_of c.or-2.ensures ∙ text_of_either _ _ ∙ ap₂ option_or c.excluded_verbosity.ensures shown
