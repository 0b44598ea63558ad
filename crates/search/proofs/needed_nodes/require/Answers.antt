use Rattle.std.proofs.Common.{sym, subst}
use Rattle.search.specs.Ranges.{EachBelow}
use Rattle.search.proofs.needed_nodes.require.Goals as goal

pub insert_all-requires : goal.insert_all-requires
insert_all-requires c = subst (λ room. EachBelow room c.args.more.now) (sym c.requires.required_room) c.requires.known
