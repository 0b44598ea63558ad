use Rattle.std.proofs.Common.{sym}
use Rattle.markers.proofs.TokenFacts.{quoted-ascii}
use Rattle.markers.proofs.marker_token.quoted_at.Goals as goal

pub ascii-requires : goal.ascii-requires
ascii-requires c = quoted-ascii c.args.quote c.args.rest.now c.in-Some.text.now (sym c.in-Some.ensures)
