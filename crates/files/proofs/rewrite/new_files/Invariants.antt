use Rattle.std.proofs.Common.{◌≡◌, take}
use Rattle.files.proofs.rewrite.new_files.Given as goal

-- the files so far
abbrev pub invariant-loop-file : goal.invariant-loop-file
invariant-loop-file l = l.files.items ≡ take l.file-index l.named
