use Rattle.std.proofs.Common.{◌≡◌}
use Rattle.serde_json.specs.View.{items_view}
use Rattle.snapshot.specs.Packages.{package_of}
use Rattle.snapshot.specs.Shape.{each_from}
use Rattle.snapshot.proofs.ItemsOneByOne.{gather}
use Rattle.snapshot.proofs.PackageFacts.{no_packages, with_package}
use Rattle.snapshot.proofs.package.reading.listed_packages.Given as goal

abbrev pub invariant-loop-place : goal.invariant-loop-place
invariant-loop-place l =
    gather with_package (record { packages = l.packages.items; skipped = l.all_skipped.items }) (each_from package_of l.place-iterator.count (items_view l.place-iterator.iter.rest.items))
    ≡ gather with_package no_packages (each_from package_of 0 (items_view l.fn.values.items))
