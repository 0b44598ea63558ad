use Rattle.std.proofs.Common.{◌≡◌}
use Rattle.serde_json.specs.View.{items_view}
use Rattle.snapshot.specs.Tied.Gathering.{gathered_view, gather_release, nothing}
use Rattle.snapshot.specs.Releases.{release_of}
use Rattle.snapshot.specs.Shape.{each_from}
use Rattle.snapshot.proofs.ItemsOneByOne.{gather}
use Rattle.snapshot.proofs.release.reading.gathered.Given as goal

abbrev pub invariant-loop-place : goal.invariant-loop-place
invariant-loop-place l =
    gather (gather_release l.name) (gathered_view l.place-iterator.count l.gathering) (each_from release_of l.place-iterator.count (items_view l.place-iterator.iter.rest.items))
    ≡ gather (gather_release l.name) nothing (each_from release_of 0 (items_view l.fn.values.items))
