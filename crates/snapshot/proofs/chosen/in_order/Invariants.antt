use Rattle.std.proofs.Common.{◌≡◌, ◌++◌}
use Rattle.snapshot.proofs.chosen.in_order.Given as goal

abbrev pub invariant-loop-file : goal.invariant-loop-file
invariant-loop-file l = l.files.items ++ l.file-iterator ≡ l.fn.set.keys
