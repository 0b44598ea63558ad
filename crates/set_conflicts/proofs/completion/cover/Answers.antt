use Rattle.std.proofs.Common.{subst}
use Rattle.set_conflicts.specs.Tied.Covers.{IsCompletedBy}
use Rattle.set_conflicts.proofs.Covered.{completed-covers, covers-joined}
use Rattle.set_conflicts.proofs.Listed.{item-member}
use Rattle.set_conflicts.proofs.completion.cover.Goals as goal

pub returns-in_ok-join : goal.returns-in_ok-join
returns-in_ok-join c =
    let old = c.index-earlier-at.result in
    let places = c.in-Some.places.now in
    let done = subst (λ o. IsCompletedBy c.args.conflict.now c.args.node places o) c.as_slice-old.ensures (c.does_complete.ensures c.if-does_complete.true) in
    covers-joined c.args.earlier.now c.args.conflict.now c.args.node c.args.covered.now places c.join.new.self c.requires
    (completed-covers c.args.earlier.now c.args.conflict.now c.args.node places old (item-member c.args.earlier.now c.args.at old c.if-at-earlier.false c.index-earlier-at.is) done)
    c.in_ok-join.ensures
