use Rattle.std.proofs.lemmas.Str.Pattern.{contains_text}
use Rattle.markers.proofs.MarkerFacts.{contains-decided}
use Rattle.markers.proofs.marker_atom.contains.Goals as goal

pub returns : goal.returns
returns c = contains-decided c.contains.result c.args.text.now c.args.part.now (contains_text c.contains.result c.args.part.now c.args.text.now c.contains.ensures.cases)
