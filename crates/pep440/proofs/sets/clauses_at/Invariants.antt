use Rattle.std.proofs.Common.{◌≡◌, ◌+◌, length, vec_len}
use Rattle.pep440.specs.Tied.Sets.{clauses_from}
use Rattle.pep440.specs.Text.{pieces}
use Rattle.pep440.proofs.SetFacts.{with_front}
use Rattle.pep440.proofs.sets.clauses_at.Given as goal

abbrev pub invariant-pieces : goal.invariant-pieces
invariant-pieces l = with_front l.clauses.items (clauses_from (vec_len l.clauses + 1) (pieces l.rest)) ≡ clauses_from 1 (pieces l.fn.text)

abbrev pub decreases-pieces : goal.decreases-pieces
decreases-pieces l = length l.rest
