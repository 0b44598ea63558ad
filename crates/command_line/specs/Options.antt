-- The options of a command line, which stand before the subcommand or behind it. All of it is reqlock's own rule.
use Rattle.std.specs.Prelude.{Bool, false, List, [], ◌∷◌, ◌++◌, Option, codes, map, not, unwrap_or, option_map, ◌&&◌, ◌||◌, is_some}
use Rattle.std.specs.Borrow.{Bor}
use Rattle.std.specs.List.{list_any}
use Rattle.std.specs.Option.{option_map_or, option_or}
use Rattle.std.specs.Str.{bytes_eq}
use Rattle.clap.specs.Words.{Row, Text, all_of, first_of}

-- the text behind a reference, and the texts behind references
abbrev pub text_of : Option (Bor Text) → Option Text
text_of = option_map (λ s. s.now)

abbrev pub values_of : Bor (List (Bor Text)) → List Text
values_of texts = map (λ s. s.now) texts.now

abbrev pub texts_of : Option (Bor (List (Bor Text))) → Option (List Text)
texts_of = option_map values_of

-- arguments of the program's own code, each with whether something holds of it
abbrev pub marks_of : List (Bor Text × Bool) → List (Text × Bool)
marks_of = map (λ mark. (mark.0.now, mark.1))

-- the values of an option or of a text; none where it isn't given
abbrev pub values_in : List Row → Text → List Text
values_in rows id = unwrap_or (all_of id rows) []

-- the value of an option, of what stands before the subcommand and behind it; and the values of one that may be given several
-- times, in the order of the words
abbrev pub chosen : List Row → List Row → Text → Option Text
chosen before behind option = option_or (first_of option behind) (first_of option before)

abbrev pub all_chosen : List Row → List Row → Text → List Text
all_chosen before behind option = values_in before option ++ values_in behind option

-- whether a flag is given, and whether it is given in one of the two places
abbrev pub has_flag : List Row → Text → Bool
has_flag rows flag = option_map_or (λ value. bytes_eq value (codes "true")) (first_of flag rows) false

abbrev pub is_flagged : List Row → List Row → Text → Bool
is_flagged before behind flag = has_flag before flag || has_flag behind flag

-- whether an option stands in both places, and whether a flag does
abbrev pub is_twice : List Row → List Row → Text → Bool
is_twice before behind option = is_some (first_of option before) && is_some (first_of option behind)

abbrev pub is_flag_twice : List Row → List Row → Text → Bool
is_flag_twice before behind flag = has_flag before flag && has_flag behind flag

-- the subcommands that take a flag which may stand before them
abbrev pub dry_run_takers : List Text
dry_run_takers = codes "init" ∷ codes "add" ∷ codes "remove" ∷ codes "constrain" ∷ codes "upgrade" ∷ codes "relock" ∷ codes "replace" ∷ codes "retarget" ∷ codes "undo" ∷ codes "redo" ∷ codes "forget" ∷ []

abbrev pub keep_locked_takers : List Text
keep_locked_takers = codes "add" ∷ codes "remove" ∷ codes "constrain" ∷ codes "upgrade" ∷ codes "relock" ∷ codes "replace" ∷ codes "retarget" ∷ codes "batch" ∷ codes "why" ∷ []

abbrev pub json_takers : List Text
json_takers = codes "show" ∷ codes "log" ∷ codes "diff" ∷ codes "check" ∷ codes "outdated" ∷ []

abbrev pub is_among : List Text → Text → Bool
is_among names name = list_any (bytes_eq name) names

-- whether a flag stands before a subcommand, which doesn't take it
abbrev pub is_stray : List Row → Text → Bool → Bool
is_stray before flag is_taken = has_flag before flag && not is_taken
