use Rattle.markers.proofs.RelationsDecideMarkers.{relations-decide}
use Rattle.markers.proofs.marker_relations.the_relations_decide.Goals as goal

pub returns : goal.returns
returns c = relations-decide
