-- The words of the program's command line. All of it is reqlock's own rule.
use Rattle.std.specs.Prelude.{ℕ, ◌-◌, true, List, [], ◌∷◌, ◌++◌, Some, codes}
use Rattle.clap.specs.Lexer.{usize_max}
use Rattle.clap.specs.Simple.{Shape, new_shape}
use Rattle.clap.specs.Words.{App, Rule, Text, new_rule, with_subcommand}
use Rattle.clap.specs.declared.builder.action.ArgAction.TheVariants.{Append, SetTrue}

-- an option with one value, as --dir DIR
abbrev pub option_rule : Text → Rule
option_rule name = record (new_rule name) { long = Some name; value_names = 1 }

-- an option with one value that may be given several times, as --env FILE
abbrev pub repeated_rule : Text → Rule
repeated_rule name = record (option_rule name) { action = Some Append }

-- an option with this many values, as --constrain NAME [SPEC]
abbrev pub ranged_rule : Text → ℕ → ℕ → ℕ → Rule
ranged_rule name names least most = record (option_rule name) { value_names = names; range = Some (record { start_inclusive = least; end_inclusive = most }) }

-- an option without a value, as --explain
abbrev pub flag_rule : Text → Rule
flag_rule name = record (new_rule name) { long = Some name; action = Some SetTrue }

-- a flag with a letter, as -v, --verbose
abbrev pub lettered_rule : Text → ℕ → Rule
lettered_rule name letter = record (flag_rule name) { short = Some letter }

-- an option with two values, as --line NAME TEXT
abbrev pub pair_rule : Text → Rule
pair_rule name = record (option_rule name) { value_names = 2; range = Some (record { start_inclusive = 2; end_inclusive = 2 }) }

-- a text that a subcommand may take, as [SPEC]
abbrev pub text_rule : Text → Rule
text_rule name = record (new_rule name) { value_names = 1 }

-- a text that a subcommand needs, as NAME
abbrev pub needed_rule : Text → Rule
needed_rule name = record (text_rule name) { required = true }

-- texts, as many as are given, as [NAME]...
abbrev pub texts_rule : Text → Rule
texts_rule name = record (text_rule name) { range = Some (record { start_inclusive = 0; end_inclusive = usize_max }) }

-- the options of what is saved, those of an edit that is saved, those of what is printed, and those in front of a subcommand
abbrev pub saving_rules : List Rule
saving_rules = flag_rule (codes "dry-run") ∷ []

abbrev pub keeping_rule : Rule
keeping_rule = flag_rule (codes "keep-locked")

abbrev pub edit_rules : List Rule
edit_rules = keeping_rule ∷ flag_rule (codes "if-needed") ∷ saving_rules

abbrev pub json_rules : List Rule
json_rules = flag_rule (codes "json") ∷ []

abbrev pub front_rules : List Rule
front_rules = keeping_rule ∷ (saving_rules ++ json_rules)

-- the options of new lines, [--was OLD] [--line NAME TEXT], and of versions to keep, [--pins FILE]...
abbrev pub pins_rule : Rule
pins_rule = repeated_rule (codes "pins")

abbrev pub replacement_rules : List Rule
replacement_rules = option_rule (codes "was") ∷ pair_rule (codes "line") ∷ pins_rule ∷ []

-- how much is told, and in which colors: [-v] [-q] [--color WHEN]
abbrev pub telling_rules : List Rule
telling_rules = lettered_rule (codes "verbose") 118 ∷ lettered_rule (codes "quiet") 113 ∷ option_rule (codes "color") ∷ []

-- the options, before a subcommand or behind it: [--dir DIR] [--index FILE] [--env FILE]...
abbrev pub option_rules : List Rule
option_rules = option_rule (codes "dir") ∷ option_rule (codes "index") ∷ repeated_rule (codes "env") ∷ []

-- a subcommand with the options, with these arguments and with those of all that is told
abbrev pub shape_with : Text → List Rule → Shape
shape_with name rules = record (new_shape name) { rules = option_rules ++ (rules ++ telling_rules) }

-- reqlock [--dir DIR] [--index FILE] [--env FILE]... [--keep-locked] [--dry-run] [--json] [-v] [-q] [--color WHEN] SUBCOMMAND
abbrev pub options_app : App
options_app = record {
  top = record (new_shape (codes "reqlock")) {
    rules = option_rules ++ (front_rules ++ telling_rules);
    has_version = true;
    subcommand_required = true;
  };
  subs = [];
}

-- the subcommands that begin a history and edit the requirements file
abbrev pub edit_shapes : List Shape
edit_shapes =
    shape_with (codes "init") (pins_rule ∷ saving_rules)
    ∷ shape_with (codes "add") (needed_rule (codes "text") ∷ edit_rules)
    ∷ shape_with (codes "remove") (needed_rule (codes "name") ∷ edit_rules)
    ∷ shape_with (codes "constrain") (needed_rule (codes "name") ∷ text_rule (codes "specifiers") ∷ edit_rules)
    ∷ shape_with (codes "upgrade") (texts_rule (codes "names") ∷ edit_rules)
    ∷ shape_with (codes "relock") edit_rules
    ∷ shape_with (codes "replace") (text_rule (codes "new") ∷ (replacement_rules ++ edit_rules))
    ∷ shape_with (codes "retarget") (pins_rule ∷ edit_rules)
    ∷ []

-- those that go through the history, and those that do the commands of standard input
abbrev pub step_shapes : List Shape
step_shapes =
    shape_with (codes "undo") saving_rules
    ∷ shape_with (codes "redo") saving_rules
    ∷ shape_with (codes "forget") (option_rule (codes "before") ∷ (option_rule (codes "keep") ∷ saving_rules))
    ∷ shape_with (codes "batch") (flag_rule (codes "all-or-none") ∷ keeping_rule ∷ [])
    ∷ shape_with (codes "try") []
    ∷ []

-- those that print what is there
abbrev pub view_shapes : List Shape
view_shapes =
    shape_with (codes "show") (text_rule (codes "name") ∷ flag_rule (codes "tree") ∷ json_rules)
    ∷ shape_with (codes "log") (flag_rule (codes "long") ∷ json_rules)
    ∷ shape_with (codes "diff") (text_rule (codes "from") ∷ text_rule (codes "to") ∷ json_rules)
    ∷ shape_with (codes "check") (flag_rule (codes "current") ∷ json_rules)
    ∷ shape_with (codes "outdated") json_rules
    ∷ shape_with (codes "export") (option_rule (codes "format") ∷ option_rule (codes "target") ∷ ranged_rule (codes "covers") 1 1 (usize_max - 1) ∷ [])
    ∷ shape_with (codes "skipped") []
    ∷ []

-- why [--explain [--long]] [--keep-locked] [TEXT], or why with one of --init [TEXT] [--pins FILE]..., --constrain NAME [SPEC], --upgrade [NAME]...,
-- --remove NAME, --not NAME, --replace [NEW], this one with the options of new lines, and --retarget [--pins FILE]...
abbrev pub why_shapes : List Shape
why_shapes =
    shape_with (codes "why") (
    flag_rule (codes "explain") ∷ flag_rule (codes "long") ∷ keeping_rule ∷ text_rule (codes "text") ∷ flag_rule (codes "init") ∷ ranged_rule (codes "constrain") 2 1 2
    ∷ ranged_rule (codes "upgrade") 1 0 usize_max ∷ option_rule (codes "remove") ∷ option_rule (codes "not") ∷ ranged_rule (codes "replace") 1 0 1
    ∷ flag_rule (codes "retarget") ∷ replacement_rules
    )
    ∷ []

-- an app with these subcommands behind its own
abbrev pub with_subcommands : App → List Shape → App
with_subcommands app [] = app
with_subcommands app (shape ∷ shapes) = with_subcommands (with_subcommand app shape) shapes

unfoldable pub reqlock_app : App
reqlock_app = with_subcommands options_app (edit_shapes ++ step_shapes ++ view_shapes ++ why_shapes)
