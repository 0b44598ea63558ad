use Rattle.journal.proofs.PlacesFacts.{between-back}
use Rattle.journal.proofs.places.difference_between.Goals as goal

pub returns-then-to-from : goal.returns-then-to-from
returns-then-to-from g c = record {
  between = rw c.in_ok-back.ensures (between-back (g.H.History.past c.args.history.now) c.args.to c.args.from c.in_ok-way_on.field-0 c.in_ok-way_on.ensures.between);
}
