use Rattle.journal.proofs.WhatIsTold.{what-opens}
use Rattle.journal.proofs.laws.what_opens_is_told.Goals as goal

pub returns : goal.returns
returns c = record { law = what-opens }
