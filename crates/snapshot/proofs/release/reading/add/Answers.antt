use Rattle.snapshot.proofs.GatherFacts.{release_kept, release_left, release_repeated}
use Rattle.snapshot.proofs.release.reading.add.Goals as goal
use Rattle.snapshot.proofs.release.reading.add.Goals.{in-Ok+in_ok-insert_new-in-Ok+then-not-branch+in_ok-leave_out-in-Ok, in-Ok+in_ok-insert_new-in-Ok+else-not-branch, in-Err+in_ok-leave_out-in-Err}

pub returns-clause-kept : goal.returns-clause-kept
returns-clause-kept c = elim c.match-release.branch [
  | in-Ok+in_ok-insert_new-in-Ok+then-not-branch+in_ok-leave_out-in-Ok w ↦
      rw (w.gathering-is, w.in-Ok.is, ← w.new.ensures)
      (release_repeated c.args.name.now c.args.place c.args.outcome.version c.args.gathering.now.newest.keys _ c.args.gathering.now.skipped.items _ w.new.result w.in_ok-insert_new-in-Ok.field-0 w.in_ok-insert_new-in-Ok.ensures.keys w.in_ok-insert_new-in-Ok.ensures.is_new w.if-not-branch.true w.in_ok-leave_out-in-Ok.ensures.kept)
  | in-Ok+in_ok-insert_new-in-Ok+else-not-branch w ↦
      rw (w.gathering-is, w.in-Ok.is, ← w.new.ensures)
      (release_kept c.args.name.now c.args.place c.args.outcome.version c.args.gathering.now.newest.keys _ c.args.gathering.now.skipped.items w.new.result w.in_ok-insert_new-in-Ok.field-0 w.in_ok-insert_new-in-Ok.ensures.keys w.in_ok-insert_new-in-Ok.ensures.is_new w.if-not-branch.false)
  | in-Err+in_ok-leave_out-in-Err w ↦
      rw (w.gathering-is, w.in-Err.is)
      (release_left c.args.name.now c.args.place c.args.outcome.version c.args.gathering.now.newest.keys c.args.gathering.now.skipped.items _ w.in-Err.cause w.in_ok-leave_out-in-Err.ensures.kept)
]
