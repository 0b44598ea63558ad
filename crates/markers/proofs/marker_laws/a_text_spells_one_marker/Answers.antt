use Rattle.markers.proofs.TextsReadAsSpelled.{one_marker}
use Rattle.markers.proofs.marker_laws.a_text_spells_one_marker.Goals as goal

pub returns : goal.returns
returns c = one_marker
