use Rattle.std.proofs.Common.{◌≡◌, ap, ◌∙◌, sym, rules, arith}
use Rattle.json.specs.Json.{null, boolean, number, string}
use Rattle.json.specs.Value.{value_view}
use Rattle.json.specs.declared.value.Value.{Null, Bool, Number, String, the_lemmas}
use Rattle.json.proofs.Trees.{view-Array, view-Object}
use Rattle.serde_json.specs.Data as values
use Rattle.serde_json.specs.Read.{of_json}
use Rattle.snapshot.specs.Tied.Meaning.{IsData}
use Rattle.snapshot.proofs.MeaningFacts.{all_taken, items_data, items_value_data, members_data, members_value_data, number_data}
use Rattle.snapshot.proofs.pass.data.+data.Goals as goal

pub are_data-returns : goal.are_data-returns
are_data-returns t c h = items_data c.args.items.now (all_taken (λ v. IsData (value_view v)) c.args.items.now c.loop-place.place (omega (arith, c.loop-place-test.false)) c.loop-place.invariant)

pub have_data-returns : goal.have_data-returns
have_data-returns t c h = members_data c.args.members.now (all_taken (λ m. IsData (value_view m.1)) c.args.members.now c.loop-place.place (omega (arith, c.loop-place-test.false)) c.loop-place.invariant)

pub is_data-returns-in-Number : goal.is_data-returns-in-Number
is_data-returns-in-Number t c h =
    let seen : value_view (Number c.in-Number.text) ≡ number c.in-Number.text.now = search (rules, the_lemmas) in
    number_data (value_view c.args.value.now) c.in-Number.text.now c.whole_of.result (ap value_view c.in-Number.is ∙ seen) c.whole_of.ensures (sym c.is_some.ensures ∙ h)

pub is_data-returns-then-depth-gt0 : goal.is_data-returns-then-depth-gt0
is_data-returns-then-depth-gt0 t c h =
    items_value_data (value_view c.args.value.now) c.in-Array.items.items (ap value_view c.in-Array.is ∙ view-Array c.in-Array.items) (rw c.as_slice.ensures.value at (c.are_data.ensures h))

pub is_data-returns-then-depth-gt0-2 : goal.is_data-returns-then-depth-gt0-2
is_data-returns-then-depth-gt0-2 t c h =
    members_value_data (value_view c.args.value.now) c.in-Object.members.items (ap value_view c.in-Object.is ∙ view-Object c.in-Object.members) (rw c.as_slice-then-depth-gt0-2.ensures.value at (c.have_data.ensures h))

pub is_data-returns-in-Null : goal.is_data-returns-in-Null
is_data-returns-in-Null t c h =
    let seen : value_view Null ≡ null = search (rules, the_lemmas) in
    (values.null, ap of_json (ap value_view c.in-Null.is ∙ seen))

pub is_data-returns-in-Bool : goal.is_data-returns-in-Bool
is_data-returns-in-Bool t c h =
    let seen : value_view (Bool c.in-Bool.field-0) ≡ boolean c.in-Bool.field-0 = search (rules, the_lemmas) in
    (values.boolean c.in-Bool.field-0, ap of_json (ap value_view c.in-Bool.is ∙ seen))

pub is_data-returns-in-String : goal.is_data-returns-in-String
is_data-returns-in-String t c h =
    let seen : value_view (String c.in-String.field-0) ≡ string c.in-String.field-0.now = search (rules, the_lemmas) in
    (values.string c.in-String.field-0.now, ap of_json (ap value_view c.in-String.is ∙ seen))
