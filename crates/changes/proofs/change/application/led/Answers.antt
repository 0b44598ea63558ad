use Rattle.states.specs.StateParts.{StateParts}
use Rattle.states.proofs.PartFacts.{not-so}
use Rattle.changes.specs.Tied.Outcome.{IsMade, with_outcome}
use Rattle.changes.proofs.MovedFacts.{nowhere}
use Rattle.changes.proofs.change.application.led.Goals as goal

pub outcome_of-requires : goal.outcome_of-requires
outcome_of-requires c = c.requires

pub is_state-requires : goal.is_state-requires
is_state-requires c =
    let old : StateParts = record { lines = c.args.lines; targets = c.args.targets.now } in
    let made : IsMade old c.args.change.now c.in-Some.made = rw c.in-Some.is at c.in_ok-made.ensures in
    (old, c.requires, made)

pub returns-then-not-branch : goal.returns-then-not-branch
returns-then-not-branch c =
    let old : StateParts = record { lines = c.args.lines; targets = c.args.targets.now } in
    let made : IsMade old c.args.change.now c.in-Some.made = rw c.in-Some.is at c.in_ok-made.ensures in
    nowhere c.args.change.now old (with_outcome c.in-Some.made) made.after (λ is. not-so (rw c.if-not-branch.true at (c.in_ok-is_state.ensures.1 is)))

pub returns : goal.returns
returns c =
    let old : StateParts = record { lines = c.args.lines; targets = c.args.targets.now } in
    let made : IsMade old c.args.change.now c.in-Some.made = rw c.in-Some.is at c.in_ok-made.ensures in
    (made.after, c.in_ok-is_state.ensures.0 c.if-not-branch.false)
