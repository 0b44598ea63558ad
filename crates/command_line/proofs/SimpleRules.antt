-- Arguments whose rules are simple aren't global, and those of the description are simple.
use Rattle.std.proofs.Common.{◌≡◌, ◌∙◌, Bool, List, [], ◌∷◌, ◌++◌, ap, false, map, refl, sym, true, true≢false}
use Rattle.std.specs.Prelude.{◌&&◌, is_some, not}
use Rattle.std.specs.List.{AllByRecursion, list_all}
use Rattle.clap.specs.Walk.{is_empty, is_simple_arg}
use Rattle.clap.specs.Words.{Rule, rule_of}
use Rattle.clap.specs.declared.builder.arg.Arg.{Arg}
use Rattle.command_line.specs.CommandWords.{option_rules, telling_rules}
use Rattle.command_line.specs.Tied.Tables.{rule_of_words}
use Rattle.command_line.specs.declared.descriptions.ArgWords.{ArgWords}
use Rattle.command_line.specs.declared.descriptions.ArgWords.TheVariants.{Flag, Lettered, Needed, Ranged, Repeated, Several, Text, Texts, Valued}

first : (one other : Bool) → (one && other) ≡ true → one ≡ true
first true other is = refl
first false other is = absurd (true≢false (sym is))

second : (one other : Bool) → (one && other) ≡ true → other ≡ true
second true other is = is
second false other is = absurd (true≢false (sym is))

off : (one : Bool) → not one ≡ true → one ≡ false
off false is = refl
off true is = absurd (true≢false (sym is))

abbrev pub are_simple : List Rule → Bool
are_simple = list_all (λ (r : Rule). r.is_simple)

local : (a : Arg) → is_simple_arg a ≡ true → a.global ≡ false
local a is =
    let plain = second (is_empty a.groups.items) _ (second (is_empty a.default_vals_ifs.items) _ (second (is_empty a.overrides.items) _ is)) in
    let words = second (not a.allow_negative_numbers) _ (second (not a.allow_hyphen_values) _ (second (not (is_some a.terminator)) _ (second (not (is_some a.val_delim)) _ plain))) in
    off a.global (second (not a.last) _ (second (not a.require_equals) _ words))

-- no argument is global where all rules are simple
pub locals : (args : List Arg) → are_simple (map rule_of args) ≡ true → AllByRecursion (λ a. a.global ≡ false) args
locals [] are = tt
locals (a ∷ args) are =
    (local a (first (is_simple_arg a) (are_simple (map rule_of args)) are), locals args (second (is_simple_arg a) (are_simple (map rule_of args)) are))

is_simple : (words : ArgWords) → (rule_of_words words).is_simple ≡ true
is_simple (Flag name help) = refl
is_simple (Lettered letter name help) = refl
is_simple (Valued name value help) = refl
is_simple (Repeated name value help) = refl
is_simple (Ranged name values least end help) = refl
is_simple (Several name value help) = refl
is_simple (Text name value help) = refl
is_simple (Needed name value help) = refl
is_simple (Texts name value help) = refl

-- those of a description are, in front of others that are
words_are_simple : (words : List ArgWords) (rules : List Rule) → are_simple rules ≡ true → are_simple (map rule_of_words words ++ rules) ≡ true
words_are_simple [] rules are = are
words_are_simple (word ∷ words) rules are = rw (is_simple word) (words_are_simple words rules are)

-- so those of a subcommand are
pub simple_behind_options : (rules : List Rule) (words : List ArgWords) → rules ≡ option_rules ++ (map rule_of_words words ++ telling_rules) → are_simple rules ≡ true
simple_behind_options rules words are = ap are_simple are ∙ words_are_simple words telling_rules refl
