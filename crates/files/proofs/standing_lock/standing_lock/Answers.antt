use Rattle.std.proofs.Common.{◌∙◌, ◌<◌, ap, length, rules}
use Rattle.files.proofs.Coming.{is-of-coming}
use Rattle.files.specs.TargetLocks.{coming}
use Rattle.files.proofs.standing_lock.standing_lock.Goals as goal

pub returns-then-branch : goal.returns-then-branch
returns-then-branch g c =
    let come = c.in_ok-coming.ensures ∙ ap (coming c.args.before.now) c.targets.ensures in
    let within : c.loop-place.place < length c.in_ok-coming.coming.items = search rules in
    is-of-coming c.args.before.now c.args.session.now c.state.result.now c.in_ok-coming.coming.items c.loop-place.place c.index-target.result.now c.in_ok-clone.field-0
    c.state.ensures.present come within c.index-target.ensures c.in_ok-clone.ensures.cases
