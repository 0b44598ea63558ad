use Rattle.std.specs.Prelude.{codes, option_map}
use Rattle.serde_json.specs.View.{view}
use Rattle.snapshot.specs.Shape.{key_path}
use Rattle.snapshot.proofs.NameFacts.{name_found}
use Rattle.snapshot.proofs.package.reading.name_of.Goals as goal

pub returns-in-Ok : goal.returns-in-Ok
returns-in-Ok c = name_found (key_path (codes "name")) (option_map view c.args.found) c.as_str.result.now c.in-Ok.name (rw c.as_str.ensures c.in_ok-text.ensures) c.in-Ok.ensures
