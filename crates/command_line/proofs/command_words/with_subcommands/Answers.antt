use Rattle.std.proofs.Common.{◌∙◌, ap}
use Rattle.clap.specs.Words.{App, app_of, with_subcommand}
use Rattle.command_line.proofs.NoGlobals.{no_globals}
use Rattle.command_line.proofs.OneMore.{one_more}
use Rattle.command_line.proofs.command_words.with_subcommands.Goals as goal

pub loop-words-preserved : goal.loop-words-preserved
loop-words-preserved c =
    let local = no_globals _ _ _ _ (ap (λ (a : App). a.top.is_plain) c.in_ok-subcommand.ensures.app) in
    let added = c.in_ok-command.ensures.shape local ∙ ap (with_subcommand (app_of c.loop-words.command)) (ap (λ (a : App). a.top) c.in_ok-subcommand.ensures.app) in
    one_more _ _ _ c.args.all.now _ _ c.loop-words-test.true added c.loop-words.invariant
