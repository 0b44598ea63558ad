use Rattle.std.proofs.Common.{◌∙◌, ap, refl}
use Rattle.states.specs.Locks.{given_of}
use Rattle.states.specs.Pool.{PoolParts}
use Rattle.states.proofs.LockFacts.{IsLockOf-from}
use Rattle.states.proofs.StateFacts.{IsLockFor-from}
use Rattle.states.proofs.locks.lock_for.Goals as goal

pub returns-in-Solution : goal.returns-in-Solution
returns-in-Solution g c =
    let given = given_of c.args.lines.now c.args.environment.now c.args.pool.now c.args.kept.entries in
    let problem = c.in_ok-problem.ensures in
    let best = rw problem at (rw c.in-Solution.is at c.in_ok-versions.ensures) in
    let made = c.in_ok-lock-in-Solution.ensures in
    let entries = rw problem at made.entries in
    let snapshot = made.snapshot ∙ ap (λ (pool : PoolParts). pool.index.digest) c.pool.view_is in
    let locked = IsLockOf-from given c.in-Solution.versions.entries c.in_ok-lock-in-Solution.lock best entries made.environment snapshot in
    (locked, IsLockFor-from given c.args.lines.now c.in_ok-lock-in-Solution.lock locked refl c.recall_invariant.ensures entries.releases c.equal_versions_match_alike.ensures)
