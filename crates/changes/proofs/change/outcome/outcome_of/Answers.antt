use Rattle.states.specs.StateParts.{StateParts}
use Rattle.changes.proofs.BetweenStates.{state-targets}
use Rattle.changes.proofs.MovedFacts.{nowhere-gone, nowhere-put, nowhere-targets}
use Rattle.changes.proofs.change.outcome.outcome_of.Goals as goal

pub targets_after-requires-clause-are : goal.targets_after-requires-clause-are
targets_after-requires-clause-are c = state-targets (record { lines = c.args.lines; targets = c.args.targets.now }) c.requires

pub targets_after-requires-clause-some : goal.targets_after-requires-clause-some
targets_after-requires-clause-some c = c.requires.some

pub returns-in_default : goal.returns-in_default
returns-in_default c =
    let old : StateParts = record { lines = c.args.lines; targets = c.args.targets.now } in
    nowhere-targets c.args.change.now old (rw c.in_default.is at c.in_ok-targets.ensures)

pub returns-in_default-2 : goal.returns-in_default-2
returns-in_default-2 c =
    let old : StateParts = record { lines = c.args.lines; targets = c.args.targets.now } in
    nowhere-gone c.args.change.now old (rw (c.in_default-2.is, c.as_slice.ensures, c.splices-splices.ensures) at c.in_ok-gone.ensures)

pub returns-in_default-3 : goal.returns-in_default-3
returns-in_default-3 c =
    let old : StateParts = record { lines = c.args.lines; targets = c.args.targets.now } in
    nowhere-put c.args.change.now old (rw (c.in_default-3.is, c.splices-splices.ensures) at c.in_ok-put.ensures)

pub exchanged_lines-requires-clause-rising : goal.exchanged_lines-requires-clause-rising
exchanged_lines-requires-clause-rising c = rw c.splices-splices.ensures c.recall_invariant.ensures.splices.apart

pub exchanged_lines-requires-clause-leads : goal.exchanged_lines-requires-clause-leads
exchanged_lines-requires-clause-leads c =
    let gone = rw (c.in-Some-2.is, c.as_slice.ensures, c.splices-splices.ensures) at c.in_ok-gone.ensures in
    rw c.splices-splices.ensures gone.1

pub exchanged_lines-requires-clause-put : goal.exchanged_lines-requires-clause-put
exchanged_lines-requires-clause-put c =
    let put = rw (c.in-Some-3.is, c.splices-splices.ensures) at c.in_ok-put.ensures in
    rw (c.splices-splices.ensures, c.in_ok-new.ensures.cases) put

pub returns : goal.returns
returns c =
    let moved = rw c.in-Some.is at c.in_ok-targets.ensures in
    let gone = rw (c.in-Some-2.is, c.as_slice.ensures, c.splices-splices.ensures) at c.in_ok-gone.ensures in
    let put = rw (c.in-Some-3.is, c.splices-splices.ensures) at c.in_ok-put.ensures in
    let lines = rw c.splices-splices.ensures at c.in_ok-lines.ensures in
    record {
      after = record { lines = lines; targets = moved };
      gone_is = gone.0;
      put_is = put;
      ended = rw c.as_slice-2.ensures at c.is_last_ended-was_ended.ensures;
    }
