use Rattle.resolve.proofs.Picturing.{found-stands, found-there}
use Rattle.resolve.proofs.names.number_of.Goals as goal

pub unreachable-requires : goal.unreachable-requires
unreachable-requires c = found-there c.args.names.now c.in-Err.field-0 c.args.name.now c.requires.rising c.requires.there c.in-Err.ensures.position

pub returns : goal.returns
returns c = found-stands c.args.names.now c.in-Ok.number c.args.name.now c.in-Ok.ensures.bound (c.in-Ok.ensures.ok c.args.name.now)
