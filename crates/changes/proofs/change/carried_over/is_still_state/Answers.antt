use Rattle.std.proofs.Common.{refl}
use Rattle.std.specs.List.{AllByRecursion, concat}
use Rattle.std.specs.Prelude.{◌↔◌, IsTrue}
use Rattle.states.specs.State.{IsState}
use Rattle.states.proofs.PartFacts.{IfOk-onto, not-so}
use Rattle.changes.specs.Tied.CarriedOver.{IsReachedFrom}
use Rattle.changes.specs.Tied.Outcome.{with_outcome}
use Rattle.changes.proofs.StateCarried.{all-met, all-reached, state-carried, state-reached}
use Rattle.changes.proofs.change.carried_over.is_still_state.Goals as goal

pub are_lines_still-requires : goal.are_lines_still-requires
are_lines_still-requires c = (c.requires.made.0, c.args.change.now, c.requires.made.1, c.requires.made.2)

pub returns-then-not-are_lines_still : goal.returns-then-not-are_lines_still
returns-then-not-are_lines_still c =
    let made = c.args.made.now in
    (λ h. absurd (not-so h), λ is. c.if-not-are_lines_still.ensures.lines.1 (c.a_file_reads_as_lines.ensures (concat made.lines) made.lines is.lines))

pub returns-then-not-all_touched_met : goal.returns-then-not-all_touched_met
returns-then-not-all_touched_met c =
    let only = rw (c.as_slice.ensures, c.as_slice-lines.ensures, c.as_slice-targets.ensures) at c.if-not-all_touched_met.ensures.only in
    (λ h. absurd (not-so h), λ is. only (all-met c.args.change.now c.requires.made.0 c.args.made.now c.requires.made.2 is))

pub returns-then-reaches_as_before : goal.returns-then-reaches_as_before
returns-then-reaches_as_before c =
    let reads = c.if-not-are_lines_still.ensures.read refl in
    let met = rw (c.entries.ensures, c.as_slice.ensures, c.as_slice-lines.ensures, c.as_slice-targets.ensures) at (c.if-not-all_touched_met.ensures.met refl) in
    let stay = c.if-reaches_as_before.ensures refl in
    ((λ h. state-carried c.args.change.now c.requires.made.0 c.args.made.now c.requires.stays c.requires.made.1 c.requires.made.2 reads met stay.0 stay.1), (λ is. refl))

pub returns : goal.returns
returns c =
    let made = c.args.made.now in
    let reads = c.if-not-are_lines_still.ensures.read refl in
    let met = rw (c.entries.ensures, c.as_slice.ensures, c.as_slice-lines.ensures, c.as_slice-targets.ensures) at (c.if-not-all_touched_met.ensures.met refl) in
    let found = rw (c.as_slice-lines.ensures, c.as_slice-targets.ensures) at c.all_reached.ensures in
    IfOk-onto (λ b. IsTrue b ↔ AllByRecursion (IsReachedFrom made.lines) made.targets) (λ b. IsTrue b ↔ IsState (with_outcome made)) c.all_reached.result
    (λ b k. (
      (λ h. state-reached c.args.change.now c.requires.made.0 made c.requires.stays c.requires.made.1 c.requires.made.2 reads met (k.0 h)),
      (λ is. k.1 (all-reached c.args.change.now c.requires.made.0 made c.requires.made.2 is)),
    ))
    found
