use Rattle.std.proofs.Common.{◌≡◌, map, take}
use Rattle.files.specs.NamedRewrites.{new_file}
use Rattle.files.proofs.rewrite.named_all.Given as goal

-- the files so far
abbrev pub invariant-loop-rewrite : goal.invariant-loop-rewrite
invariant-loop-rewrite l = l.named.items ≡ map new_file (take l.rewrite-index l.rewrites)
