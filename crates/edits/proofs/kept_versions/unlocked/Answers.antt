use Rattle.edits.proofs.KeepFacts.{are-after}
use Rattle.edits.proofs.kept_versions.unlocked.Goals as goal

pub returns-clause-some : goal.returns-clause-some
returns-clause-some c =
    let kept = rw c.targets-2.ensures at c.in_ok-each_unlocked.ensures in
    (are-after c.args.pool.now.index c.args.state.now.targets c.in_ok-each_unlocked.field-0 c.recall_invariant.ensures.some c.recall_invariant.ensures.rising c.args.edit.now c.recall_targets.ensures kept).0

pub returns-clause-rising : goal.returns-clause-rising
returns-clause-rising c =
    let kept = rw c.targets-2.ensures at c.in_ok-each_unlocked.ensures in
    (are-after c.args.pool.now.index c.args.state.now.targets c.in_ok-each_unlocked.field-0 c.recall_invariant.ensures.some c.recall_invariant.ensures.rising c.args.edit.now c.recall_targets.ensures kept).1
