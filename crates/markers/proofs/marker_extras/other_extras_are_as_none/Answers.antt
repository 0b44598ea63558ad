use Rattle.markers.proofs.OtherExtras.{others-are_as_none}
use Rattle.markers.proofs.marker_extras.other_extras_are_as_none.Goals as goal

pub returns : goal.returns
returns c = others-are_as_none
