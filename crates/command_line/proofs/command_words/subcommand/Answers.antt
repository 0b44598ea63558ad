use Rattle.std.proofs.Common.{◌≡◌, ◌∙◌, ◌++◌, List, [], ap, append_assoc, map}
use Rattle.std.proofs.lemmas.Result.{IfOk-weaker}
use Rattle.clap.specs.Simple.{app_of_fields, new_shape, on_top}
use Rattle.clap.specs.Words.{Rule, app_of, new_app, rule_of}
use Rattle.command_line.specs.CommandWords.{option_rules, telling_rules}
use Rattle.command_line.specs.Tied.Tables.{rule_of_words}
use Rattle.command_line.proofs.AddedArguments.{adds_are}
use Rattle.command_line.proofs.SimpleRules.{locals, simple_behind_options}
use Rattle.command_line.proofs.command_words.subcommand.Goals as goal

pub returns : goal.returns
returns c =
    let name = c.args.words.now.name.now in
    let own : List Rule = map rule_of_words c.args.words.now.args.now in
    let args = c.in_ok-args.args.items in
    let options : map rule_of c.in_ok-own.own.items ≡ option_rules ++ own = c.in_ok-own.ensures.args ∙ ap (λ (rules : List Rule). rules ++ own) c.in_ok-options.ensures.args in
    let rules : map rule_of args ≡ option_rules ++ (own ++ telling_rules) =
    c.in_ok-args.ensures.args ∙ ap (λ (rules : List Rule). rules ++ telling_rules) options ∙ append_assoc option_rules own telling_rules in
    let start : app_of c.with_usage.result ≡ new_app name = c.with_usage.ensures.app ∙ ap app_of_fields c.after_help.ensures ∙ ap app_of_fields c.about.ensures ∙ c.new.ensures.app in
    let local = locals args (simple_behind_options _ c.args.words.now.args.now rules) in
    record {
      app = IfOk-weaker c.args-2.result _ _
          (λ made adds. adds_are _ args made adds local ∙ ap (on_top (λ s. record s { rules = s.rules ++ map rule_of args })) start
          ∙ (λ i. record { top = record (new_shape name) { rules = rules i }; subs = [] }))
          c.args-2.ensures;
    }
