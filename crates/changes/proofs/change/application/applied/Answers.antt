use Rattle.std.specs.List.{concat}
use Rattle.changes.specs.Changes.{Leads}
use Rattle.changes.specs.Tied.Outcome.{with_outcome}
use Rattle.changes.proofs.change.application.applied.Goals as goal

pub led-requires : goal.led-requires
led-requires c = rw (c.in_ok-lines.ensures, c.lines-2.ensures, c.lines.ensures, c.targets.ensures) c.recall_invariant.ensures

pub from_lines-requires : goal.from_lines-requires
from_lines-requires c =
    let led : Leads c.args.state.now c.args.change.now (with_outcome c.in-Some.made) =
    rw (c.in-Some.is, c.in_ok-lines.ensures, c.lines-2.ensures, c.lines.ensures, c.targets.ensures) at c.in_ok-made.ensures in
    c.a_file_reads_as_lines.ensures (concat c.in-Some.made.lines) c.in-Some.made.lines led.1.lines

pub from_lawful-requires : goal.from_lawful-requires
from_lawful-requires c =
    let led : Leads c.args.state.now c.args.change.now (with_outcome c.in-Some.made) =
    rw (c.in-Some.is, c.in_ok-lines.ensures, c.lines-2.ensures, c.lines.ensures, c.targets.ensures) at c.in_ok-made.ensures in
    rw c.from_lines.ensures led.1

pub returns : goal.returns
returns c =
    let led : Leads c.args.state.now c.args.change.now (with_outcome c.in-Some.made) =
    rw (c.in-Some.is, c.in_ok-lines.ensures, c.lines-2.ensures, c.lines.ensures, c.targets.ensures) at c.in_ok-made.ensures in
    rw (c.from_lawful.ensures, c.from_lines.ensures) led
