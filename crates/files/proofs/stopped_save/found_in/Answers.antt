use Rattle.std.proofs.Common.{false, get_or}
use Rattle.std.proofs.lemmas.Option.{get_or_from_slice_get}
use Rattle.files.proofs.CompletedFiles.{none-at_all, none-more, ways}
use Rattle.files.proofs.stopped_save.found_in.Goals as goal

pub loop-requirements-preserved : goal.loop-requirements-preserved
loop-requirements-preserved g c =
    let place = c.loop-requirements.requirements-index in
    none-more (g.F.HistoryFolder.may_fail c.args.folder.now) (g.F.Folder.held c.args.folder.now) place c.in_ok-found.field-0 c.of-beside.result (get_or ways place (false, false))
    (λ way at. get_or_from_slice_get ways place way (false, false) at) c.of-beside.ensures.requirements c.of-beside.ensures.locks c.of-beside.ensures.journal c.in_default.is c.in_ok-found.ensures.none c.loop-requirements.invariant

pub returns-clause-none : goal.returns-clause-none
returns-clause-none g c = none-at_all (g.F.HistoryFolder.may_fail c.args.folder.now) (g.F.Folder.held c.args.folder.now) c.loop-requirements.requirements-index c.loop-requirements-test.false c.loop-requirements.invariant
