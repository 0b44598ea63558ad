use Rattle.std.proofs.Common.{take}
use Rattle.std.specs.List.{AllByRecursion}
use Rattle.snapshot.specs.Files.{file_of}
use Rattle.snapshot.specs.Lawful.{IsFile}
use Rattle.snapshot.specs.Tied.Meaning.{EachMeans}
use Rattle.snapshot.proofs.pass.file.files_of.Given as goal

abbrev pub invariant-loop-place : goal.invariant-loop-place
invariant-loop-place l = EachMeans file_of (take l.place l.values) l.files.items × AllByRecursion IsFile l.files.items
