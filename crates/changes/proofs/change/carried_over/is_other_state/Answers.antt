use Rattle.std.proofs.Common.{refl}
use Rattle.std.specs.List.{AllByRecursion, concat}
use Rattle.std.specs.Prelude.{◌↔◌, IsTrue}
use Rattle.states.specs.State.{Fits, IsState}
use Rattle.states.specs.StateParts.{digest_of}
use Rattle.states.proofs.FitFacts.{fits-all}
use Rattle.states.proofs.PartFacts.{IfOk-onto, not-so}
use Rattle.changes.specs.Tied.Outcome.{with_outcome}
use Rattle.changes.proofs.Retargeted.{empty-from, some-from}
use Rattle.changes.proofs.StateCarried.{other-state}
use Rattle.changes.proofs.change.carried_over.is_other_state.Goals as goal

pub are_lines_still-requires : goal.are_lines_still-requires
are_lines_still-requires c = (c.requires.made.0, c.args.change.now, c.requires.made.1, c.requires.made.2)

pub returns-then-not-are_lines_still : goal.returns-then-not-are_lines_still
returns-then-not-are_lines_still c =
    let made = c.args.made.now in
    (λ h. absurd (not-so h), λ is. c.if-not-are_lines_still.ensures.lines.1 (c.a_file_reads_as_lines.ensures (concat made.lines) made.lines is.lines))

pub returns-then-is_empty : goal.returns-then-is_empty
returns-then-is_empty c = (λ h. absurd (not-so h), λ is. absurd (is.some (empty-from c.args.made.now.targets c.if-is_empty.ensures)))

pub do_fit-requires : goal.do_fit-requires
do_fit-requires c = rw c.as_slice.ensures (c.if-not-are_lines_still.ensures.lines.0 refl)

pub returns : goal.returns
returns c =
    let made = c.args.made.now in
    let reads = c.if-not-are_lines_still.ensures.read refl in
    let fit = rw (c.as_slice.ensures, c.as_slice-2.ensures) at c.do_fit.ensures in
    IfOk-onto (λ b. IsTrue b ↔ AllByRecursion (Fits made.lines (digest_of made.targets)) made.targets) (λ b. IsTrue b ↔ IsState (with_outcome made)) c.do_fit.result
    (λ b k. (
      (λ h. other-state c.args.change.now c.requires.made.0 made c.requires.moves c.requires.made.2 (some-from made.targets c.if-is_empty.ensures) reads (k.0 h)),
      (λ is. k.1 (fits-all (with_outcome made) is)),
    ))
    fit
