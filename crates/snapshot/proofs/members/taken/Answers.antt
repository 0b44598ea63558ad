use Rattle.std.proofs.Common.{◌∙◌, sym}
use Rattle.serde_json.specs.View.{members_view}
use Rattle.snapshot.proofs.ValueFacts.{all_found, none_found}
use Rattle.snapshot.proofs.members.taken.Goals as goal

pub loop-key-init : goal.loop-key-init
loop-key-init g c =
    let none = c.default-found.ensures in
    rw c.into_iter-key-iterator.ensures.into_iter_gives.0
    (none.long, none_found (λ key. key.now) c.default-found.result c.args.keys.now (members_view c.args.members.entries) (none.long ∙ sym c.requires.long) (λ i d lt. none.at i d (rw (← none.long) lt)))

pub returns : goal.returns
returns g c =
    let kept = rw c.in-None.ensures.steps.0 at c.loop-key.invariant in
    sym (all_found (λ key. key.now) c.loop-key.found c.args.keys.now (kept.0 ∙ sym c.requires.long)) ∙ kept.1
