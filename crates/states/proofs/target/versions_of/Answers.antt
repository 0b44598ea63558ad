use Rattle.states.proofs.VersionsFacts.{versions-more}
use Rattle.states.proofs.target.versions_of.Goals as goal

pub loop-entry-preserved : goal.loop-entry-preserved
loop-entry-preserved c = record {
  made = rw (c.in_ok-insert_version.ensures, c.loop-entry.invariant.made)
      (versions-more c.entries-entries.result.now c.loop-entry.entry-index c.entry-item.result c.loop-entry.invariant.rises c.loop-entry-test.true c.entry-item.is);
  rises = c.loop-entry.invariant.rises;
}
