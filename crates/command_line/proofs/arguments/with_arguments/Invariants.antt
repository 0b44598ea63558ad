use Rattle.std.proofs.Common.{◌≡◌, ◌++◌, map, take}
use Rattle.clap.specs.Words.{rule_of}
use Rattle.command_line.specs.Tied.Tables.{rule_of_words}
use Rattle.command_line.proofs.arguments.with_arguments.Given as goal

abbrev pub invariant-loop-word : goal.invariant-loop-word
invariant-loop-word l = map rule_of l.args.items ≡ map rule_of l.fn.others.items ++ map rule_of_words (take l.word-index l.words)
