use Rattle.std.proofs.Common.{◌≡◌, [], fold}
use Rattle.std.specs.BTreeSet.{insert_key}
use Rattle.snapshot.specs.Files.{name_cmp}
use Rattle.snapshot.proofs.chosen.set_by_name.Given as goal

abbrev pub invariant-loop-file : goal.invariant-loop-file
invariant-loop-file l = fold (insert_key name_cmp) l.set.keys l.file-iterator.rest.items ≡ fold (insert_key name_cmp) [] l.fn.files.items
