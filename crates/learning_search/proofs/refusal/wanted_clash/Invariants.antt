use Rattle.std.proofs.Common.{take, ℕ}
use Rattle.std.specs.List.{Contains}
use Rattle.learning_search.specs.Tied.Demanded.{WantedFits}
use Rattle.learning_search.specs.Tied.Learned.{first_at}
use Rattle.search.specs.Table.{rules_of}
use Rattle.learning_search.proofs.refusal.wanted_clash.Given as goal

abbrev pub invariant-loop-requirement : goal.invariant-loop-requirement
invariant-loop-requirement l = (r : ℕ) → Contains (take l.requirement-index l.wants) r → WantedFits (rules_of l.table) (first_at l.taken) l.candidate r
