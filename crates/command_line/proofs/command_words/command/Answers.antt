use Rattle.std.proofs.Common.{◌∙◌, ◌++◌, ap}
use Rattle.std.proofs.lemmas.Result.{IfOk-weaker}
use Rattle.clap.specs.Words.{App}
use Rattle.command_line.specs.CommandWords.{edit_shapes, reqlock_app, step_shapes, view_shapes, why_shapes, with_subcommands}
use Rattle.command_line.proofs.command_words.command.Goals as goal

pub returns : goal.returns
unfolding reqlock_app
returns c =
    let shapes = edit_shapes ++ step_shapes ++ view_shapes ++ why_shapes in
    record { app = IfOk-weaker c.with_subcommands.result _ _ (λ made is. is ∙ ap (λ (a : App). with_subcommands a shapes) c.in_ok-program.ensures.app) c.with_subcommands.ensures.app }
