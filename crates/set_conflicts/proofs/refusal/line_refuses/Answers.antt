use Rattle.std.proofs.Common.{Contains, subst, get_or}
use Rattle.set_conflicts.proofs.Listed.{at-member}
use Rattle.set_conflicts.proofs.refusal.line_refuses.Goals as goal

pub line_refuses_term-requires : goal.line_refuses_term-requires
line_refuses_term-requires c =
    let r = get_or c.lines-lines.result.now c.args.line 0 in
    c.lines-lines.ensures.known r (subst (λ rs. Contains rs r) c.lines-lines.ensures.lines (at-member c.lines-lines.result.now c.args.line 0 c.if-line-lines.false))
