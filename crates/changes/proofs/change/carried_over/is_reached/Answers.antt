use Rattle.std.proofs.Common.{refl}
use Rattle.std.specs.List.{AllByRecursion}
use Rattle.std.specs.Prelude.{◌↔◌, IsTrue}
use Rattle.problems.specs.Problem.{requirements}
use Rattle.pylock.specs.Packages.{EntryParts}
use Rattle.states.specs.State.{Reached}
use Rattle.states.proofs.PartFacts.{IfOk-onto, not-so}
use Rattle.changes.specs.Tied.CarriedOver.{IsReachedFrom}
use Rattle.changes.proofs.change.carried_over.is_reached.Goals as goal

pub returns-then-not-are_closed : goal.returns-then-not-are_closed
returns-then-not-are_closed c =
    let closed = rw c.entries-entries.ensures at c.if-not-are_closed.ensures in
    (λ h. absurd (not-so h), λ is. closed.1 is.closed)

pub returns : goal.returns
returns c =
    let lines = c.args.lines.now in
    let target = c.args.target.now in
    let closed = rw c.entries-entries.ensures at c.if-not-are_closed.ensures in
    let reached = rw c.entries-entries.ensures at c.are_reached.ensures in
    IfOk-onto (λ b. IsTrue b ↔ AllByRecursion (λ (e : EntryParts). Reached (requirements target.environment lines) target.lock.entries e.name) target.lock.entries) (λ b. IsTrue b ↔ IsReachedFrom lines target) c.are_reached.result
    (λ b k. ((λ h. record { closed = closed.0 refl; reached = k.0 h }), (λ is. k.1 is.reached)))
    reached
