use Rattle.std.proofs.Common.{Ok, Err}
use Rattle.command_line.proofs.Requests.{fault_is, kinds_of, matches_are}
use Rattle.command_line.proofs.request.read_words.Goals as goal

pub returns-in-Ok-clause-read : goal.returns-in-Ok-clause-read
returns-in-Ok-clause-read g c = kinds_of _ _ (Ok c.in-Ok.matches) c.in_ok-command.ensures.app c.in-Ok.ensures.kinds

pub returns-in-Ok-clause-rows : goal.returns-in-Ok-clause-rows
returns-in-Ok-clause-rows g c = (matches_are _ _ _ c.in_ok-command.ensures.app c.in-Ok.ensures.matches).0

pub returns-in-Ok-clause-subcommand : goal.returns-in-Ok-clause-subcommand
returns-in-Ok-clause-subcommand g c = (matches_are _ _ _ c.in_ok-command.ensures.app c.in-Ok.ensures.matches).1

pub returns-in-Err-clause-fault : goal.returns-in-Err-clause-fault
returns-in-Err-clause-fault g c = fault_is _ c.in-Err.error _ (kinds_of _ _ (Err c.in-Err.error) c.in_ok-command.ensures.app c.in-Err.ensures.kinds) c.fault_of_clap.ensures.fault
