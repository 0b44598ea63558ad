use Rattle.states.specs.StateParts.{digest_of}
use Rattle.states.proofs.FitFacts.{not-all}
use Rattle.states.proofs.PartFacts.{not-so}
use Rattle.changes.proofs.change.carried_over.do_fit.Goals as goal

pub returns-in-Some : goal.returns-in-Some
returns-in-Some c =
    let first = rw (c.in-Some.is, c.from_lines-file.ensures, c.in_ok-kept.ensures) at c.in_ok-first_unfit.ensures in
    (λ h. absurd (not-so h), λ all. absurd (not-all c.args.lines.now (digest_of c.args.targets.now) c.args.targets.now c.in-Some.field-0.now first all))
