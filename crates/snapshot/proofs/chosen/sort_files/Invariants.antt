use Rattle.std.proofs.Common.{◌≡◌, fold}
use Rattle.snapshot.specs.Tied.Chosen.{no_files, sorted_with}
use Rattle.snapshot.proofs.chosen.sort_files.Given as goal

abbrev pub invariant-loop-file : goal.invariant-loop-file
invariant-loop-file l = fold sorted_with l.sorted l.file-iterator.rest.items ≡ fold sorted_with no_files l.fn.files.items
