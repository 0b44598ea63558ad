use Rattle.pep508.proofs.Places.{place_of-cut}
use Rattle.pep508.proofs.cuts.cut_before.Goals as goal

pub split_at-requires : goal.split_at-requires
split_at-requires c = rw (c.place_of.ensures, c.as_bytes.ensures.value) (place_of-cut c.args.byte c.args.text.now c.requires)
