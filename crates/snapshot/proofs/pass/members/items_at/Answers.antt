use Rattle.std.proofs.Common.{sym, ap, ◌∙◌}
use Rattle.json.specs.Value.{value_view}
use Rattle.json.proofs.Trees.{view-Array}
use Rattle.snapshot.proofs.MeaningFacts.{items_found}
use Rattle.snapshot.proofs.pass.members.items_at.Goals as goal

pub returns-in-Array : goal.returns-in-Array
returns-in-Array c = rw c.as_slice.ensures.value (items_found c.args.key.now (value_view c.args.object.now) (value_view c.in_ok-items.field-0.now) c.in-Array.items.items (sym c.in_ok-items.ensures) (ap value_view c.in-Array.is ∙ view-Array c.in-Array.items))
