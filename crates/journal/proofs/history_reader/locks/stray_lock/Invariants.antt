use Rattle.std.proofs.Common.{◌≡◌}
use Rattle.std.specs.Prelude.{find, not}
use Rattle.journal_format.specs.Lines.{has_target}
use Rattle.journal.proofs.history_reader.locks.stray_lock.Given as goal

abbrev pub invariant-loop-name : goal.invariant-loop-name
invariant-loop-name l = find (λ p. not (has_target l.header p.0)) l.name-iterator ≡ find (λ p. not (has_target l.header p.0)) l.locks.entries
