-- A command to which arguments are added in turn.
use Rattle.std.proofs.Common.{◌≡◌, ◌∙◌, List, [], ◌∷◌, ◌++◌, ap, false, map, sym}
use Rattle.std.proofs.lemmas.List.{append-nil, append_assoc}
use Rattle.std.specs.List.{AllByRecursion}
use Rattle.clap.specs.Built.{AddsArg, AddsInTurn}
use Rattle.clap.specs.Simple.{on_top}
use Rattle.clap.specs.Words.{App, Rule, app_of, rule_of, with_rule}
use Rattle.clap.specs.declared.builder.arg.Arg.{Arg}
use Rattle.clap.specs.declared.builder.command.Command.{Command}

-- an app with these rules behind those of its top
abbrev with_rules : App → List Rule → App
with_rules app [] = app
with_rules app (rule ∷ rules) = with_rules (with_rule app rule) rules

adds_rules : (old : Command) (args : List Arg) (new : Command) → AddsInTurn AddsArg old args new → AllByRecursion (λ a. a.global ≡ false) args → app_of new ≡ with_rules (app_of old) (map rule_of args)
adds_rules old [] new same local = ap app_of (sym same)
adds_rules old (arg ∷ args) new (next, adds, rest) local = adds_rules next args new rest local.1 ∙ ap (λ (app : App). with_rules app (map rule_of args)) (adds.shape local.0)

abbrev behind : List Rule → App → App
behind rules app = on_top (λ s. record s { rules = s.rules ++ rules }) app

with_rules_are : (app : App) (rules : List Rule) → with_rules app rules ≡ behind rules app
with_rules_are app [] = ap (λ (rules : List Rule). on_top (λ s. record s { rules = rules }) app) (sym (append-nil app.top.rules))
with_rules_are app (rule ∷ rules) =
    with_rules_are (with_rule app rule) rules
    ∙ ap (λ (all : List Rule). on_top (λ s. record s { rules = all }) app) (append_assoc app.top.rules (rule ∷ []) rules)

-- the app of a command with these arguments behind its own
pub adds_are : (old : Command) (args : List Arg) (new : Command) → AddsInTurn AddsArg old args new → AllByRecursion (λ a. a.global ≡ false) args
    → app_of new ≡ on_top (λ s. record s { rules = s.rules ++ map rule_of args }) (app_of old)
adds_are old args new adds local = adds_rules old args new adds local ∙ with_rules_are (app_of old) (map rule_of args)
