use Rattle.power_cuts.proofs.CompletedSaves.{stands-complete}
use Rattle.power_cuts.proofs.laws.what_stands_can_be_completed.Goals as goal

pub returns : goal.returns
returns c = record { law = stands-complete }
