use Rattle.std.proofs.Common.{sym}
use Rattle.json.specs.Value.{value_view}
use Rattle.snapshot.proofs.MeaningFacts.{whole_found}
use Rattle.snapshot.proofs.pass.members.whole_at.Goals as goal

pub returns : goal.returns
returns c = whole_found c.args.key.now (value_view c.args.object.now) (value_view c.in_ok-get.field-0.now) (sym c.in_ok-get.ensures) _ c.whole_of.result (sym c.in_ok-as_number.ensures) c.whole_of.ensures
