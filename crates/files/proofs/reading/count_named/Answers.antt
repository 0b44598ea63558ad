use Rattle.files.proofs.FaultyFiles.{count-named}
use Rattle.files.proofs.reading.count_named.Goals as goal

pub returns-in_ok-names_in-in-Ok-clause-counted : goal.returns-in_ok-names_in-in-Ok-clause-counted
returns-in_ok-names_in-in-Ok-clause-counted g c =
    count-named (g.F.HistoryFolder.may_fail c.args.folder.now) (g.F.Folder.held c.args.folder.now) c.args.beside.now c.in-Ok.journal c.in_ok-names_in-in-Ok.field-0 c.len-in-Ok.result c.in-Ok.ensures.journal c.in_ok-names_in-in-Ok.ensures.names c.len-in-Ok.ensures
