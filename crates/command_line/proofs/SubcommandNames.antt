-- The subcommands that clap reads are those that the definitions know.
use Rattle.std.proofs.Common.{◌≡◌, List, codes, map, refl}
use Rattle.std.specs.Prelude.{filter, not}
use Rattle.std.specs.List.{list_any}
use Rattle.std.specs.Str.{bytes_eq}
use Rattle.clap.specs.Simple.{Shape}
use Rattle.clap.specs.Words.{Rule, Text}
use Rattle.command_line.specs.CommandWords.{reqlock_app}
use Rattle.command_line.specs.Options.{dry_run_takers, is_among, json_takers, keep_locked_takers}
use Rattle.command_line.specs.Questions.{edit_names}
use Rattle.command_line.specs.UsageFaults.{other_names}

abbrev names : List Text
names = map (λ (s : Shape). s.name) reqlock_app.subs

-- those that make an edit, and the others: none is missing in either list
pub the_edits_are_known : filter (is_among edit_names) names ≡ edit_names
unfolding reqlock_app
the_edits_are_known = refl

pub the_subcommands_are_known : filter (λ name. not (is_among edit_names name)) names ≡ other_names
unfolding reqlock_app
the_subcommands_are_known = refl

-- those that take a flag behind them
abbrev taking : Text → List Text
taking flag = map (λ (s : Shape). s.name) (filter (λ (s : Shape). list_any (λ (r : Rule). bytes_eq r.id flag) s.rules) reqlock_app.subs)

-- a flag may stand in front of those that take it behind them, and of no other
pub the_takers_of_keep_locked_are_known : taking (codes "keep-locked") ≡ keep_locked_takers
unfolding reqlock_app
the_takers_of_keep_locked_are_known = refl

pub the_takers_of_dry_run_are_known : taking (codes "dry-run") ≡ dry_run_takers
unfolding reqlock_app
the_takers_of_dry_run_are_known = refl

pub the_takers_of_json_are_known : taking (codes "json") ≡ json_takers
unfolding reqlock_app
the_takers_of_json_are_known = refl
