use Rattle.std.proofs.Common.{take, ℕ}
use Rattle.std.specs.List.{Contains}
use Rattle.set_conflicts.proofs.replay.first_turn.Given as goal

abbrev pub invariant-loop-turn : goal.invariant-loop-turn
invariant-loop-turn l = (v : ℕ) → Contains (take l.turn l.candidates) v → Contains l.set v → ⊥
