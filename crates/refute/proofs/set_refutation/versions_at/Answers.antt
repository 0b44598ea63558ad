use Rattle.resolve.proofs.Solving.{get_or-any}
use Rattle.refute.proofs.set_refutation.versions_at.Goals as goal

pub version_at-requires : goal.version_at-requires
version_at-requires c = c.requires _ (c.loop-place.place-index, c.loop-place-test.true, get_or-any c.args.places.now c.loop-place.place-index _ 0 c.loop-place-test.true)
