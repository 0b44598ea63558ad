use Rattle.std.proofs.Common.{◌∙◌, sym, subst}
use Rattle.resolve.specs.Tied.Choosing.{IsNewest}
use Rattle.resolve.proofs.FirstAdmitted.{newest-found}
use Rattle.resolve.proofs.first_candidate.newest_admitted.Goals as goal

pub returns-in-Some : goal.returns-in-Some
returns-in-Some c =
    let fall = rw c.releases.ensures.listed at c.releases.ensures.fall in
    let found = rw (c.in-Some.is, c.releases.ensures.listed) at c.first.ensures in
    (sym c.is_held.ensures ∙ c.if-is_held.false, subst (IsNewest c.args.problem.now c.args.name.now c.args.asks.now) (sym c.version.ensures) (newest-found c.args.problem.now c.args.name.now c.args.asks.now c.in-Some.release.now fall (sym found)))
