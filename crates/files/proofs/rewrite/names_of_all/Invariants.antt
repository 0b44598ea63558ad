use Rattle.std.proofs.Common.{◌≡◌, map, take}
use Rattle.inputs.specs.FileNames.{name_of}
use Rattle.files.proofs.rewrite.names_of_all.Given as goal

-- the names so far
abbrev pub invariant-loop-file : goal.invariant-loop-file
invariant-loop-file l = l.names.items ≡ map name_of (take l.file-index l.files)
