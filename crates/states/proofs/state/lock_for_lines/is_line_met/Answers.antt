use Rattle.std.proofs.Common.{◌∙◌, sym}
use Rattle.states.proofs.LockForLines.{line-met}
use Rattle.states.proofs.state.lock_for_lines.is_line_met.Goals as goal

pub returns-in-Some : goal.returns-in-Some
returns-in-Some c =
    let active = sym c.is_active.ensures ∙ c.if-is_active.true in
    let k = line-met c.args.environment.now c.args.entries.now c.args.line.now c.in-Some.requirement.now c.in-Some.ensures active in
    ((λ h. k.0 (c.is_met.ensures.0 h)), (λ h. c.is_met.ensures.1 (k.1 h)))
