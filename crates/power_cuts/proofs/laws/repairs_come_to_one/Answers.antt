use Rattle.power_cuts.proofs.Repeats.{come-to-one}
use Rattle.power_cuts.proofs.laws.repairs_come_to_one.Goals as goal

pub returns : goal.returns
returns c = record { law = come-to-one }
