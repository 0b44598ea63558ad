use Rattle.std.proofs.Common.{◌≡◌}
use Rattle.serde_json.specs.View.{items_view}
use Rattle.snapshot.specs.Files.{file_of}
use Rattle.snapshot.specs.Shape.{each_from}
use Rattle.snapshot.proofs.ItemsOneByOne.{gather, push}
use Rattle.snapshot.proofs.file.files_of.Given as goal

abbrev pub invariant-loop-place : goal.invariant-loop-place
invariant-loop-place l =
    gather push l.files.items (each_from file_of l.place-iterator.count (items_view l.place-iterator.iter.rest.items))
    ≡ each_from file_of 0 (items_view l.fn.values.items)
