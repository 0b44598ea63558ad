use Rattle.std.proofs.Common.{sym}
use Rattle.json.specs.Value.{value_view}
use Rattle.snapshot.proofs.MeaningFacts.{text_found}
use Rattle.snapshot.proofs.pass.members.text_at.Goals as goal

pub returns : goal.returns
returns c = text_found c.args.key.now (value_view c.args.object.now) (value_view c.in_ok-get.field-0.now) (sym c.in_ok-get.ensures) c.as_str.result c.as_str.ensures
