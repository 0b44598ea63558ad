use Rattle.std.proofs.Common.{◌≡◌, length}
use Rattle.markers.specs.Tied.MarkerReading.{tree_of}
use Rattle.markers.specs.Tied.MarkerTokens.{tokens_from}
use Rattle.markers.proofs.ReadFacts.{tree_in}
use Rattle.markers.proofs.marker_reader.tree_of.Given as goal

abbrev pub invariant-tokens : goal.invariant-tokens
invariant-tokens l = tree_in l.reader (tokens_from 0 l.left) ≡ tree_of l.fn.text

abbrev pub decreases-tokens : goal.decreases-tokens
decreases-tokens l = length l.left
