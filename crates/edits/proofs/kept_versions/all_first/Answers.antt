use Rattle.std.proofs.Common.{◌∙◌, ap}
use Rattle.lists.specs.Rising.{rises}
use Rattle.edits.specs.Tied.KeptVersions.{kept_first}
use Rattle.edits.proofs.KeepFacts.{names-first, some-kept}
use Rattle.edits.proofs.kept_versions.all_first.Goals as goal

pub returns-clause-some : goal.returns-clause-some
returns-clause-some c =
    let kept = rw (c.into_list.ensures, c.as_slice.ensures) at c.in_ok-each_first.ensures in
    some-kept (kept_first c.args.snapshot.now c.args.first.pins) c.args.first.targets c.in_ok-each_first.field-0 kept c.recall_invariant.ensures.some

pub returns-clause-rising : goal.returns-clause-rising
returns-clause-rising c =
    let kept = rw (c.into_list.ensures, c.as_slice.ensures) at c.in_ok-each_first.ensures in
    ap rises (names-first c.args.snapshot.now c.args.first.pins c.args.first.targets c.in_ok-each_first.field-0 kept) ∙ c.recall_invariant.ensures.rising
