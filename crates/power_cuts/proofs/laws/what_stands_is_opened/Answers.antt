use Rattle.files.proofs.OpenedFiles.{opens-as_it}
use Rattle.power_cuts.proofs.laws.what_stands_is_opened.Goals as goal

pub returns : goal.returns
returns c = record { law = opens-as_it }
