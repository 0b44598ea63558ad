use Rattle.calls.specs.AskedEdits.{IsHistoryFor}
use Rattle.commands.specs.Replies.{is_accepted}
use Rattle.saves.specs.Called.{BatchIsDone, EditIsDone, ForgetIsDone, InitIsDone, StepIsDone, is_save}
use Rattle.saves.proofs.StoppedCalls.{stand-for, stopped-by_hand, stopped-call, stopped-first}
use Rattle.saves.proofs.laws.a_stopped_call_leaves_the_old_or_the_new.Goals as goal

pub returns-clause-step : goal.returns-clause-step
returns-clause-step c asked = stopped-call c.files_stand_for_one_history.ensures.law is_accepted (StepIsDone asked) (λ files after answer done. (done.0, done.1))

pub returns-clause-edit : goal.returns-clause-edit
returns-clause-edit c handed asked index targets keeps only none =
    stopped-call c.files_stand_for_one_history.ensures.law is_accepted (EditIsDone handed asked index targets keeps only) (λ files after answer done. (done.0, stand-for handed asked files done.0 none done.1))

pub returns-clause-forget : goal.returns-clause-forget
returns-clause-forget c beginning = stopped-call c.files_stand_for_one_history.ensures.law is_accepted (ForgetIsDone beginning) (λ files after answer done. (done.0, done.1))

pub returns-clause-batch : goal.returns-clause-batch
returns-clause-batch c handed index is_all_or_none keeps =
    stopped-call c.files_stand_for_one_history.ensures.law is_save (BatchIsDone handed index is_all_or_none keeps) (λ files after answer done. (done.0, done.1))

pub returns-clause-init : goal.returns-clause-init
returns-clause-init c handed index targets pins = stopped-first c.files_stand_for_one_history.ensures.law is_accepted (InitIsDone handed index targets pins)

pub returns-clause-any_edit : goal.returns-clause-any_edit
returns-clause-any_edit c handed asked index targets keeps only =
    stopped-by_hand c.files_stand_for_one_history.ensures.law is_accepted (IsHistoryFor handed asked) (EditIsDone handed asked index targets keeps only) (λ files after answer done. (done.0, done.1))
