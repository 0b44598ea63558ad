use Rattle.changes.specs.Tied.Outcome.{IsMade, with_outcome}
use Rattle.changes.proofs.MovedFacts.{is-state}
use Rattle.changes.proofs.change.application.carried.Goals as goal

pub outcome_of-requires : goal.outcome_of-requires
outcome_of-requires c = rw (c.in_ok-lines.ensures, c.lines-2.ensures, c.lines.ensures, c.targets.ensures) c.recall_invariant.ensures

pub replace-requires : goal.replace-requires
replace-requires c =
    let state = c.args.state.now in
    let made : IsMade state c.args.change.now c.in-Some.made = rw (c.in-Some.is, c.in_ok-lines.ensures, c.lines-2.ensures, c.lines.ensures, c.targets.ensures) at c.in_ok-made.ensures in
    is-state c.args.change.now state (with_outcome c.in-Some.made) c.requires.0 made.after c.requires.1

pub returns-clause-led : goal.returns-clause-led
returns-clause-led c =
    let state = c.args.state.now in
    let made : IsMade state c.args.change.now c.in-Some.made = rw (c.in-Some.is, c.in_ok-lines.ensures, c.lines-2.ensures, c.lines.ensures, c.targets.ensures) at c.in_ok-made.ensures in
    rw c.replace.ensures (made.after, is-state c.args.change.now state (with_outcome c.in-Some.made) c.requires.0 made.after c.requires.1)
