use Rattle.std.proofs.Common.{◌≡◌, sym, ap, ◌∙◌, rules}
use Rattle.json.specs.Json.{null}
use Rattle.json.specs.Value.{value_view}
use Rattle.json.specs.declared.value.Value.{Null, the_lemmas}
use Rattle.snapshot.proofs.ReleaseMeaning.{absent_dependencies, null_dependencies, listed_dependencies}
use Rattle.snapshot.proofs.pass.release.dependencies_of.Goals as goal

pub returns-in_ok-items_at-in-Some : goal.returns-in_ok-items_at-in-Some
returns-in_ok-items_at-in-Some c = listed_dependencies (value_view c.args.release.now) c.in_ok-items_at-in-Some.field-0.now c.texts_of.result c.in_ok-items_at-in-Some.ensures c.texts_of.ensures

pub returns-in-None : goal.returns-in-None
returns-in-None c = rw c.new.ensures (absent_dependencies (value_view c.args.release.now) (sym c.in-None.ensures))

pub returns-in-Some-Null : goal.returns-in-Some-Null
returns-in-Some-Null c =
    let seen : value_view Null ≡ null = search (rules, the_lemmas) in
    rw c.new-in-Some-Null.ensures (null_dependencies (value_view c.args.release.now) (value_view c.in-Some-Null.field-0.now) (sym c.in-Some-Null.ensures) (ap value_view c.in-Some-Null.field-0-is ∙ seen))
