use Rattle.std.proofs.Common.{◌≡◌}
use Rattle.serde_json.specs.View.{items_view}
use Rattle.snapshot.specs.Shape.{text_of}
use Rattle.snapshot.specs.Shape.{each_from}
use Rattle.snapshot.proofs.ItemsOneByOne.{gather, push}
use Rattle.snapshot.proofs.shape.texts_of.Given as goal

abbrev pub invariant-loop-place : goal.invariant-loop-place
invariant-loop-place l =
    gather push l.texts.items (each_from text_of l.place-iterator.count (items_view l.place-iterator.iter.rest.items))
    ≡ each_from text_of 0 (items_view l.fn.values.items)
