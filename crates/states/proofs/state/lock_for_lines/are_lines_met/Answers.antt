use Rattle.std.proofs.Common.{sym, subst}
use Rattle.std.specs.List.{AllByRecursion}
use Rattle.states.specs.Tied.LockForLines.{IsLineMet}
use Rattle.states.proofs.PartFacts.{AllByRecursion-at, not-so}
use Rattle.states.proofs.state.lock_for_lines.are_lines_met.Goals as goal

pub returns-then-not-is_line_met : goal.returns-then-not-is_line_met
returns-then-not-is_line_met c =
    let here = λ (all : AllByRecursion (IsLineMet c.args.environment.now c.args.entries.now) c.args.lines.now). subst (IsLineMet c.args.environment.now c.args.entries.now) (sym c.line-item.is)
    (AllByRecursion-at (IsLineMet c.args.environment.now c.args.entries.now) c.args.lines.now c.loop-line.line-index c.line-item.result c.loop-line-test.true all) in
    (λ h. absurd (not-so h), λ all. c.if-not-is_line_met.ensures.1 (here all))
