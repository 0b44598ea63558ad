use Rattle.std.proofs.Common.{subst, sym}
use Rattle.calls.specs.Tied.ReadLines.{HasOld}
use Rattle.files.proofs.FolderRuns.{repaired_where}
use Rattle.calls.proofs.replacement.opened_to_save.Goals as goal

pub returns-in-Old-clause-repaired : goal.returns-in-Old-clause-repaired
returns-in-Old-clause-repaired g c = repaired_where g.F.Folder.held g.F.Folder.may_leave g.F.Folder.moment g.F.Folder.left_since g.F.Folder.faults _ (HasOld c.args.lines.now) (λ no any. no (subst HasOld (sym c.in-Old.is) tt)) c.args.folder.now c.open_hand_changed.new.folder c.open_hand_changed.ensures.repaired

pub returns-in-Old-clause-places : goal.returns-in-Old-clause-places
returns-in-Old-clause-places g c = c.open_hand_changed.ensures.places

pub returns-in-New-clause-repaired : goal.returns-in-New-clause-repaired
returns-in-New-clause-repaired g c = repaired_where g.F.Folder.held g.F.Folder.may_leave g.F.Folder.moment g.F.Folder.left_since g.F.Folder.faults _ (HasOld c.args.lines.now) (λ no never. never) c.args.folder.now c.open_to_save.new.folder c.open_to_save.ensures.repaired

pub returns-in-New-clause-places : goal.returns-in-New-clause-places
returns-in-New-clause-places g c = c.open_to_save.ensures.places
