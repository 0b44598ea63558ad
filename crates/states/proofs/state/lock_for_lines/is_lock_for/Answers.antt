use Rattle.std.proofs.Common.{refl}
use Rattle.std.specs.List.{AllByRecursion}
use Rattle.std.specs.Prelude.{◌↔◌, IsTrue}
use Rattle.problems.specs.Problem.{requirements}
use Rattle.pylock.specs.Packages.{EntryParts}
use Rattle.states.specs.State.{IsLockFor, Reached}
use Rattle.states.proofs.LockForLines.{IsLockFor-from, closed-of, met-of, reached-of}
use Rattle.states.proofs.PartFacts.{IfOk-onto, not-so}
use Rattle.states.proofs.state.lock_for_lines.is_lock_for.Goals as goal

pub returns-then-not-are_closed : goal.returns-then-not-are_closed
returns-then-not-are_closed c =
    let closed = rw c.entries-entries.ensures at c.if-not-are_closed.ensures in
    (λ h. absurd (not-so h), λ is. closed.1 (closed-of c.args.lines.now c.args.environment.now c.args.lock.now is))

pub returns-then-not-are_lines_met : goal.returns-then-not-are_lines_met
returns-then-not-are_lines_met c =
    let met = rw (c.lines.ensures, c.entries-entries.ensures) at c.if-not-are_lines_met.ensures in
    (λ h. absurd (not-so h), λ is. met.1 (met-of c.args.lines.now c.args.environment.now c.args.lock.now is))

pub returns : goal.returns
returns c =
    let lines = c.args.lines.now in
    let environment = c.args.environment.now in
    let lock = c.args.lock.now in
    let closed = rw c.entries-entries.ensures at c.if-not-are_closed.ensures in
    let met = rw (c.lines.ensures, c.entries-entries.ensures) at c.if-not-are_lines_met.ensures in
    let reached = rw (c.lines-2.ensures, c.entries-entries.ensures) at c.are_reached.ensures in
    IfOk-onto (λ b. IsTrue b ↔ AllByRecursion (λ (e : EntryParts). Reached (requirements environment lines) lock.entries e.name) lock.entries) (λ b. IsTrue b ↔ IsLockFor lines environment lock) c.are_reached.result
    (λ b k. (
      (λ h. IsLockFor-from lines environment lock c.recall_invariant.ensures (c.in_ok-is_named.ensures.0 c.if-not-branch.false) (closed.0 refl) (met.0 refl) (k.0 h)),
      (λ is. k.1 (reached-of lines environment lock is)),
    ))
    reached
