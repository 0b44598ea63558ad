-- When a stream counts as failed. All of it is reqlock's own rule.
use Rattle.std.specs.Prelude.{ℕ, Bool, true, ◌==◌, Result, Ok, Err}

-- whether a sink has failed by this write: it failed or took no bytes
abbrev pub is_stuck : {E : Type 0} → Result ℕ E → Bool
is_stuck (Ok n) = n == 0
is_stuck (Err e) = true
