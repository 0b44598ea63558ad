use Rattle.changes.proofs.LinesCarried.{put-between}
use Rattle.changes.proofs.change.spliced_lines.put_in.Goals as goal

pub returns : goal.returns
returns c =
    rw (c.in_ok-append-2.ensures.items, c.in_ok-append.ensures.items, c.truncate.ensures.items, c.in_ok-behind.ensures.items, c.in_ok-behind.ensures.tail)
    (put-between c.args.lines.now.items c.args.place c.args.count c.args.new.items)
