use Rattle.markers.proofs.TokenFacts.{word-ascii}
use Rattle.markers.proofs.marker_token.word_at.Goals as goal

pub ascii-requires : goal.ascii-requires
ascii-requires c = rw c.word_of-word.ensures (word-ascii c.args.text.now)
