-- A command to which the subcommands of a description are added in turn.
use Rattle.std.proofs.Common.{◌≡◌, ◌∙◌, ◌+◌, ◌<◌, ℕ, List, ap, drop, get_or, length, map, sym}
use Rattle.std.proofs.lemmas.List.{at_drop_more}
use Rattle.clap.specs.Words.{App, with_subcommand}
use Rattle.command_line.specs.CommandWords.{with_subcommands}
use Rattle.command_line.specs.Tied.Tables.{shape_of_words}
use Rattle.command_line.specs.declared.descriptions.SubcommandWords.{SubcommandWords}

pub one_more : (old new whole : App) (all : List SubcommandWords) (i : ℕ) (other : SubcommandWords) → i < length all → new ≡ with_subcommand old (shape_of_words (get_or all i other))
    → with_subcommands old (map shape_of_words (drop i all)) ≡ whole → with_subcommands new (map shape_of_words (drop (i + 1) all)) ≡ whole
one_more old new whole all i other within added so_far =
    let rest = map shape_of_words (drop (i + 1) all) in
    ap (λ (a : App). with_subcommands a rest) added
    ∙ sym (at_drop_more (λ (ws : List SubcommandWords). with_subcommands old (map shape_of_words ws)) all i other within)
    ∙ so_far
