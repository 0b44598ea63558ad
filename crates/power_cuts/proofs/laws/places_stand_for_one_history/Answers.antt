use Rattle.power_cuts.proofs.Places.{stands-once}
use Rattle.power_cuts.proofs.laws.places_stand_for_one_history.Goals as goal

pub returns : goal.returns
returns c = record { law = stands-once c.files_stand_for_one_history.ensures.law }
