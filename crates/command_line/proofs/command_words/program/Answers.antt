use Rattle.std.proofs.Common.{◌≡◌, ◌∙◌, ◌++◌, List, [], ap, codes, map, true}
use Rattle.std.proofs.lemmas.Result.{IfOk-weaker}
use Rattle.clap.specs.Simple.{Shape, app_of_fields, new_shape, on_top}
use Rattle.clap.specs.Words.{App, Rule, app_of, new_app, rule_of}
use Rattle.command_line.specs.CommandWords.{front_rules, option_rules, telling_rules}
use Rattle.command_line.proofs.AddedArguments.{adds_are}
use Rattle.command_line.proofs.SimpleRules.{are_simple, locals}
use Rattle.command_line.proofs.command_words.program.Goals as goal

pub returns : goal.returns
returns c =
    let args = c.in_ok-args.args.items in
    let options : map rule_of c.in_ok-own.own.items ≡ option_rules ++ front_rules = c.in_ok-own.ensures.args ∙ ap (λ (rules : List Rule). rules ++ front_rules) c.in_ok-options.ensures.args in
    let rules : map rule_of args ≡ option_rules ++ (front_rules ++ telling_rules) = c.in_ok-args.ensures.args ∙ ap (λ (rules : List Rule). rules ++ telling_rules) options in
    let versioned : App → App = on_top (λ (s : Shape). record s { has_version = true }) in
    let needing : App → App = on_top (λ (s : Shape). record s { subcommand_required = true }) in
    let about_is : app_of c.about.result ≡ new_app (codes "reqlock") = ap app_of_fields c.about.ensures ∙ c.new.ensures.app in
    let start : app_of c.subcommand_required.result ≡ needing (versioned (new_app (codes "reqlock"))) =
    ap app_of_fields c.subcommand_required.ensures ∙ ap needing (ap app_of_fields c.version.ensures ∙ ap versioned about_is) in
    let local = locals args (ap are_simple rules) in
    record {
      app = IfOk-weaker c.args-2.result _ _
          (λ made adds. adds_are _ args made adds local ∙ ap (on_top (λ s. record s { rules = s.rules ++ map rule_of args })) start
          ∙ (λ i. record { top = record (new_shape (codes "reqlock")) { rules = rules i; has_version = true; subcommand_required = true }; subs = [] }))
          c.args-2.ensures;
    }
