use Rattle.std.proofs.Common.{sym}
use Rattle.json.specs.Value.{value_view}
use Rattle.snapshot.proofs.MeaningFacts.{flag_found, no_flag}
use Rattle.snapshot.proofs.pass.members.flag_at.Goals as goal

pub returns-in-None : goal.returns-in-None
returns-in-None c = no_flag c.args.key.now (value_view c.args.object.now) (sym c.in-None.ensures)

pub returns-in-Some : goal.returns-in-Some
returns-in-Some c = flag_found c.args.key.now (value_view c.args.object.now) (value_view c.in-Some.value.now) (sym c.in-Some.ensures) c.as_bool.result c.as_bool.ensures
