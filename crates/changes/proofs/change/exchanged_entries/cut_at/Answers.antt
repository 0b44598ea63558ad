use Rattle.changes.proofs.CutFacts.{count_below-within, cut}
use Rattle.changes.proofs.change.exchanged_entries.cut_at.Goals as goal

pub split_at-requires : goal.split_at-requires
split_at-requires c = rw c.count_below.ensures (count_below-within c.args.name.now c.args.entries.now)

pub returns : goal.returns
returns c =
    rw (c.split_at.ensures.front, c.split_at-2.ensures.front, c.split_at-2.ensures.back, c.entries_on.ensures, c.split_at.ensures.back, c.count_below.ensures)
    (cut c.args.name.now c.args.entries.now c.requires)
