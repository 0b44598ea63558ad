-- Arguments that stand where they can't, or beside others that exclude them. All of it is reqlock's own rule.
use Rattle.std.specs.Prelude.{◌≡◌, ◌⊎◌, Bool, List, [], ◌∷◌, Option, None, Some, codes, is_some, not, if◌then◌else◌, ◌&&◌, ◌||◌}
use Rattle.std.specs.Option.{option_or}
use Rattle.std.specs.Str.{bytes_eq}
use Rattle.clap.specs.Words.{Row, Text, all_of, first_of}
use Rattle.command_line.specs.declared.misuse.Misuse.{Misuse}
use Rattle.command_line.specs.declared.misuse.Misuse.TheVariants.{Excluded, Lacks, NoNumber, NoSubcommand, NoValue, Stray, Twice}
use Rattle.command_line.specs.Marks.{first_marked, first_of_two}
use Rattle.command_line.specs.Options.{dry_run_takers, has_flag, is_among, is_flag_twice, is_stray, is_twice, is_flagged, json_takers, keep_locked_takers, chosen}

-- the options, as help shows them, each with whether it stands before the subcommand and behind it
abbrev pub twice_marks : List Row → List Row → List (Text × Bool)
twice_marks before behind =
    (codes "--dir <DIR>", is_twice before behind (codes "dir"))
    ∷ (codes "--index <FILE>", is_twice before behind (codes "index"))
    ∷ (codes "--keep-locked", is_flag_twice before behind (codes "keep-locked"))
    ∷ (codes "--dry-run", is_flag_twice before behind (codes "dry-run"))
    ∷ (codes "--json", is_flag_twice before behind (codes "json"))
    ∷ (codes "--verbose", is_flag_twice before behind (codes "verbose"))
    ∷ (codes "--quiet", is_flag_twice before behind (codes "quiet"))
    ∷ (codes "--color <WHEN>", is_twice before behind (codes "color"))
    ∷ []

-- the flags that may stand before a subcommand, each with whether it stands before one that doesn't take it
abbrev pub stray_marks : List Row → Text → List (Text × Bool)
stray_marks before name =
    (codes "--keep-locked", is_stray before (codes "keep-locked") (is_among keep_locked_takers name))
    ∷ (codes "--dry-run", is_stray before (codes "dry-run") (is_among dry_run_takers name))
    ∷ (codes "--json", is_stray before (codes "json") (is_among json_takers name))
    ∷ []

abbrev pub is_given : List Row → Text → Bool
is_given rows id = is_some (all_of id rows)

-- how much is told, each with whether it is asked for
abbrev pub verbosity_marks : List Row → List Row → List (Text × Bool)
verbosity_marks before behind =
    (codes "--quiet", is_flagged before behind (codes "quiet"))
    ∷ (codes "--verbose", is_flagged before behind (codes "verbose"))
    ∷ []

-- what `show` may print in the place of the table, each with whether it is asked for
abbrev pub shown_marks : List Row → List (Text × Bool)
shown_marks behind =
    (codes "--tree", has_flag behind (codes "tree"))
    ∷ (codes "[NAME]", is_some (first_of (codes "name") behind))
    ∷ []

-- the questions of `why`, each with whether it stands there; a text is one, but for that of `--init`
abbrev pub question_marks : List Row → List (Text × Bool)
question_marks behind =
    (codes "--init", has_flag behind (codes "init"))
    ∷ (codes "--constrain <NAME> [SPEC]", is_given behind (codes "constrain"))
    ∷ (codes "--upgrade [<NAME>...]", is_given behind (codes "upgrade"))
    ∷ (codes "--remove <NAME>", is_given behind (codes "remove"))
    ∷ (codes "--not <NAME[==VERSION]>", is_given behind (codes "not"))
    ∷ (codes "--replace [<NEW>]", is_given behind (codes "replace"))
    ∷ (codes "--retarget", has_flag behind (codes "retarget"))
    ∷ (codes "[TEXT]", not (has_flag behind (codes "init")) && is_given behind (codes "text"))
    ∷ []

-- what names new lines, each with whether it is given; NEW stands behind `replace` or behind `--replace`
abbrev pub lines_marks : List Row → List (Text × Bool)
lines_marks behind =
    (codes "[NEW]", is_some (first_of (codes "new") behind))
    ∷ (codes "--replace [<NEW>]", is_some (first_of (codes "replace") behind))
    ∷ (codes "--was <OLD>", is_given behind (codes "was"))
    ∷ (codes "--line <NAME> <TEXT>", is_given behind (codes "line"))
    ∷ []

-- where a history is to begin, each option with whether it is given
abbrev pub beginning_marks : List Row → List (Text × Bool)
beginning_marks behind =
    (codes "--before <N>", is_given behind (codes "before"))
    ∷ (codes "--keep <N>", is_given behind (codes "keep"))
    ∷ []

-- the first argument beside which another stands that excludes it
abbrev pub excluded : List Row → List Row → Option Text
excluded before behind =
    option_or (first_of_two (verbosity_marks before behind)) (option_or (first_of_two (shown_marks behind)) (option_or (first_of_two (question_marks behind)) (option_or (first_of_two (lines_marks behind)) (first_of_two (beginning_marks behind)))))

-- whether lines are to be replaced, and whether new ones are named
abbrev pub is_replacement : Text → List Row → Bool
is_replacement name behind = bytes_eq name (codes "replace") || is_given behind (codes "replace")

abbrev pub has_old_or_line : List Row → Bool
has_old_or_line behind = is_given behind (codes "was") || is_given behind (codes "line")

abbrev pub has_lines : List Row → Bool
has_lines behind = is_some (first_of (codes "new") behind) || (is_some (first_of (codes "replace") behind) || has_old_or_line behind)

-- whether a question of `why` is about targets or about other lines, for which there may be pins
abbrev pub has_targets_or_lines : List Row → Bool
has_targets_or_lines behind = has_flag behind (codes "init") || (is_given behind (codes "replace") || has_flag behind (codes "retarget"))

-- what has to stand beside an argument or behind a subcommand, as help shows it, each with whether it is missing
abbrev pub missing_marks : Text → List Row → List (Text × Bool)
missing_marks name behind =
    (codes "NEW, --was or --line", is_replacement name behind && not (has_lines behind))
    ∷ (codes "--replace", not (is_replacement name behind) && has_old_or_line behind)
    ∷ (codes "--explain", bytes_eq name (codes "why") && (has_flag behind (codes "long") && not (has_flag behind (codes "explain"))))
    ∷ (codes "--init, --replace or --retarget", bytes_eq name (codes "why") && (is_given behind (codes "pins") && not (has_targets_or_lines behind)))
    ∷ []

-- the values of `--color`
abbrev pub color_values : List Text
color_values = codes "auto" ∷ codes "always" ∷ codes "never" ∷ []

-- a value that isn't among these
abbrev pub unknown_among : List Text → Option Text → Option Text
unknown_among values None = None
unknown_among values (Some value) = if is_among values value then None else Some value

-- the values of `--format`
abbrev pub format_values : List Text
format_values = codes "hashes" ∷ codes "dot" ∷ codes "pylock" ∷ []

abbrev pub unknown_color : List Row → List Row → Option Text
unknown_color before behind = unknown_among color_values (chosen before behind (codes "color"))

abbrev pub unknown_format : List Row → Option Text
unknown_format behind = unknown_among format_values (first_of (codes "format") behind)

-- the first unknown value, with its option
abbrev pub IsUnknownValue : List Row → List Row → Misuse → Type 0
IsUnknownValue before behind (NoValue value shown values) =
    ((unknown_color before behind ≡ Some value.now) × (shown.now ≡ codes "--color <WHEN>"))
    ⊎ ((unknown_color before behind ≡ None) × (unknown_format behind ≡ Some value.now) × (shown.now ≡ codes "--format <FORMAT>"))
IsUnknownValue before behind misuse = ⊥

-- no argument is misused
pub record IsWellUsed (before : List Row) (name : Text) (behind : List Row) : Type 0 where
  pub once : first_marked (twice_marks before behind) ≡ None
  pub taken : first_marked (stray_marks before name) ≡ None
  pub alone : excluded before behind ≡ None
  pub whole : first_marked (missing_marks name behind) ≡ None
  pub known : unknown_color before behind ≡ None
  pub formed : unknown_format behind ≡ None

-- the first that is, with the argument as help shows it: an option stands in both places; or a flag in front of a subcommand that
-- doesn't take it; or two arguments exclude one another; or one is missing; or else a value is unknown
abbrev pub IsMisused : List Row → Text → List Row → Misuse → Type 0
IsMisused before name behind (Twice shown) = first_marked (twice_marks before behind) ≡ Some shown.now
IsMisused before name behind (Stray shown) =
    (first_marked (twice_marks before behind) ≡ None) × (first_marked (stray_marks before name) ≡ Some shown.now)
IsMisused before name behind (Excluded shown) =
    (first_marked (twice_marks before behind) ≡ None) × (first_marked (stray_marks before name) ≡ None) × (excluded before behind ≡ Some shown.now)
IsMisused before name behind (Lacks shown) =
    (first_marked (twice_marks before behind) ≡ None) × (first_marked (stray_marks before name) ≡ None) × (excluded before behind ≡ None)
    × (first_marked (missing_marks name behind) ≡ Some shown.now)
IsMisused before name behind (NoValue value shown values) =
    (first_marked (twice_marks before behind) ≡ None) × (first_marked (stray_marks before name) ≡ None) × (excluded before behind ≡ None)
    × (first_marked (missing_marks name behind) ≡ None)
    × IsUnknownValue before behind (NoValue value shown values)
IsMisused before name behind NoSubcommand = ⊥
IsMisused before name behind (NoNumber text shown cause) = ⊥
