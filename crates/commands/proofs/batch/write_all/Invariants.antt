use Rattle.std.proofs.Common.{◌≡◌, ℕ, List, ◌++◌, length, false}
use Rattle.std.specs.Io.KnownBytes.{Appends}
use Rattle.commands.proofs.batch.write_all.Given as goal

-- no write has failed, and what is written and what is left are all of it
abbrev pub invariant-loop-rest : goal.invariant-loop-rest
invariant-loop-rest g l =
    (g.K.Sink.has_failed l.sink ≡ false) × ((written : List ℕ) × (l.fn.bytes ≡ written ++ l.rest) × Appends (g.K.Sink.contents l.fn.sink) (g.K.Sink.contents l.sink) written)

abbrev pub decreases-loop-rest : goal.decreases-loop-rest
decreases-loop-rest g l = length l.rest
