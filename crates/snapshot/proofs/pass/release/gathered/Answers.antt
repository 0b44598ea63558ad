use Rattle.std.proofs.Common.{subst}
use Rattle.json.specs.Value.{value_view}
use Rattle.snapshot.specs.Releases.{release_of}
use Rattle.snapshot.specs.Tied.Meaning.{Means}
use Rattle.snapshot.proofs.ReleaseMeaning.{all_gathered, one_gathered}
use Rattle.snapshot.proofs.pass.release.gathered.Goals as goal

pub loop-place-preserved : goal.loop-place-preserved
loop-place-preserved c =
    let one = subst (λ v. Means release_of (value_view v) c.in_ok-outcome.outcome) c.index-values-place.is c.in_ok-outcome.ensures in
    one_gathered c.args.name.now c.args.values.now c.loop-place.place c.index-values-place.result c.loop-place.gathering c.add.new.gathering c.in_ok-outcome.outcome c.loop-place-test.true c.loop-place.invariant one c.in-Ok.ensures.kept

pub returns : goal.returns
returns c = all_gathered c.args.name.now c.args.values.now c.loop-place.place c.loop-place.gathering c.loop-place-test.false c.loop-place.invariant
