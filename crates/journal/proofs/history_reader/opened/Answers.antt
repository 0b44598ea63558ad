use Rattle.std.proofs.Common.{arith}
use Rattle.journal_format.proofs.HeaderFacts.{header-read}
use Rattle.journal.proofs.StepFacts.{steps-count}
use Rattle.journal.proofs.history_reader.opened.Goals as goal

pub present_of-requires : goal.present_of-requires
present_of-requires c = record { targets = (header-read _ _ c.in_ok-header.ensures.header).targets }

pub history_of-requires : goal.history_of-requires
history_of-requires c =
    let read = header-read _ _ c.in_ok-header.ensures.header in
    let within = read.within in
    let count = steps-count _ _ _ _ _ c.in_ok-changes.ensures in
    omega (arith, within, count)
