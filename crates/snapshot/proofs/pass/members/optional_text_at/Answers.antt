use Rattle.std.proofs.Common.{◌≡◌, sym, ap, ◌∙◌, rules}
use Rattle.json.specs.Json.{null}
use Rattle.json.specs.Value.{value_view}
use Rattle.json.specs.declared.value.Value.{Null, the_lemmas}
use Rattle.snapshot.proofs.MeaningFacts.{no_text, null_found, optional_text_found}
use Rattle.snapshot.proofs.pass.members.optional_text_at.Goals as goal

pub returns-in-None : goal.returns-in-None
returns-in-None c = no_text c.args.key.now (value_view c.args.object.now) (sym c.in-None.ensures)

pub returns-in-Some-Null : goal.returns-in-Some-Null
returns-in-Some-Null c =
    let seen : value_view Null ≡ null = search (rules, the_lemmas) in
    null_found c.args.key.now (value_view c.args.object.now) (value_view c.in-Some-Null.field-0.now) (sym c.in-Some-Null.ensures) (ap value_view c.in-Some-Null.field-0-is ∙ seen)

pub returns-in-Some : goal.returns-in-Some
returns-in-Some c = optional_text_found c.args.key.now (value_view c.args.object.now) (value_view c.in-Some.value.now) (sym c.in-Some.ensures) c.as_str.result c.as_str.ensures
