use Rattle.std.proofs.Common.{◌≡◌, drop, map}
use Rattle.clap.specs.Words.{app_of}
use Rattle.command_line.specs.CommandWords.{with_subcommands}
use Rattle.command_line.specs.Tied.Tables.{shape_of_words}
use Rattle.command_line.proofs.command_words.with_subcommands.Given as goal

abbrev pub invariant-loop-words : goal.invariant-loop-words
invariant-loop-words l = with_subcommands (app_of l.command) (map shape_of_words (drop l.words-index l.all)) ≡ with_subcommands (app_of l.fn.start) (map shape_of_words l.all)
