use Rattle.std.proofs.Common.{take}
use Rattle.resolve.specs.Tied.Pictured.{AreListed}
use Rattle.resolve.proofs.table.all_listed.Given as goal

abbrev pub invariant-loop-name : goal.invariant-loop-name
invariant-loop-name l = AreListed l.problem l.rows.items (take l.name-index l.names)
