use Rattle.std.proofs.Common.{◌≡◌, None, Some, refl, rules}
use Rattle.edits.specs.Addition.{requirement_in}
use Rattle.edits.specs.ExchangedLine.{refused_exchange}
use Rattle.edits.proofs.Refusals.{accepted}
use Rattle.edits.proofs.exchanged_line.with_line_exchanged.Goals as goal

pub returns-in-Ok-clause-accepted : goal.returns-in-Ok-clause-accepted
returns-in-Ok-clause-accepted c =
    let name = accepted _ _ c.in_ok-name.name c.in_ok-name.ensures in
    let free : refused_exchange c.args.file.now c.args.name.now (Some c.in-Some-requirement.requirement.now) ≡ None = rw (← c.lines.ensures) name.0 in
    let reads : requirement_in c.args.text.now ≡ Some c.in-Some-requirement.requirement.now = search rules in
    rw reads free

pub returns-in-Ok-clause-joined : goal.returns-in-Ok-clause-joined
returns-in-Ok-clause-joined c =
    let name = accepted _ _ c.in_ok-name.name c.in_ok-name.ensures in
    rw (c.in-Ok.ensures.whole, c.as_bytes.ensures.value, c.as_str-2.ensures, c.in_ok-joined.ensures, c.as_str.ensures, c.lines-2.ensures, name.1) refl
