use Rattle.std.proofs.Common.{◌≡◌, ◌∙◌, ◌≤◌, ◌-◌, ◌++◌, length, take, ap, sym, arith}
use Rattle.commands.proofs.Lines.{take_room}
use Rattle.commands.proofs.pending_line.append_held.Goals as goal

pub returns-clause-items : goal.returns-clause-items
returns-clause-items c =
    let line = c.args.line.now.items in
    let bytes = c.args.bytes.now in
    let whole : c.len.result ≡ length line = c.len.ensures ∙ c.args.line.now.ok.0 in
    let fits : length line ≤ 65537 = omega arith in
    c.append_within.ensures.items ∙ ap (λ more. line ++ more) (c.front.ensures.front ∙ ap (λ n. take (65537 - n) bytes) whole) ∙ sym (take_room 65537 line bytes fits)
