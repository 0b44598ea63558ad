-- What the code's description of the command line comes to. Tied to `reqlock_app` by the contract of `command`; need not be read.
use Rattle.std.specs.Prelude.{[], length, map, max, ◌-◌}
use Rattle.clap.specs.Lexer.{usize_max}
use Rattle.clap.specs.Simple.{Shape}
use Rattle.clap.specs.Words.{App, Rule}
use Rattle.command_line.specs.declared.descriptions.ArgWords.{ArgWords}
use Rattle.command_line.specs.declared.descriptions.ArgWords.TheVariants as words
use Rattle.command_line.specs.declared.descriptions.SubcommandWords.{SubcommandWords}
use Rattle.command_line.specs.CommandWords.{flag_rule, lettered_rule, needed_rule, option_rule, ranged_rule, repeated_rule, shape_with, text_rule, texts_rule}

abbrev pub rule_of_words : ArgWords → Rule
rule_of_words (words.Flag name help) = flag_rule name.now
rule_of_words (words.Lettered letter name help) = lettered_rule name.now letter
rule_of_words (words.Valued name value help) = option_rule name.now
rule_of_words (words.Repeated name value help) = repeated_rule name.now
rule_of_words (words.Ranged name values least end help) = ranged_rule name.now (length values.now) least (max (end - 1) least)
rule_of_words (words.Several name value help) = ranged_rule name.now 1 0 usize_max
rule_of_words (words.Text name value help) = text_rule name.now
rule_of_words (words.Needed name value help) = needed_rule name.now
rule_of_words (words.Texts name value help) = texts_rule name.now

abbrev pub shape_of_words : SubcommandWords → Shape
shape_of_words words = shape_with words.name.now (map rule_of_words words.args.now)

abbrev pub app_of_words : SubcommandWords → App
app_of_words words = record { top = shape_of_words words; subs = [] }
