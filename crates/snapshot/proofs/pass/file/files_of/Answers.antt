use Rattle.std.proofs.Common.{subst}
use Rattle.json.specs.Value.{value_view}
use Rattle.snapshot.specs.Files.{file_of}
use Rattle.snapshot.specs.Lawful.{IsFile}
use Rattle.snapshot.specs.Tied.Meaning.{Means}
use Rattle.snapshot.proofs.MeaningFacts.{each_taken, more_means}
use Rattle.snapshot.proofs.ReleaseMeaning.{all_push}
use Rattle.snapshot.proofs.pass.file.files_of.Goals as goal

pub loop-place-preserved : goal.loop-place-preserved
loop-place-preserved c =
    let one = subst (λ v. Means file_of (value_view v) c.in_ok-file.file) c.index-values-place.is c.in_ok-file.ensures.meaning in
    rw c.in-Ok.ensures.items
    (more_means file_of c.args.values.now c.loop-place.place c.index-values-place.result c.loop-place.files.items c.in_ok-file.file c.loop-place-test.true c.loop-place.invariant.0 one, all_push IsFile c.loop-place.files.items c.in_ok-file.file c.loop-place.invariant.1 c.in_ok-file.ensures.lawful)

pub returns-clause-meaning : goal.returns-clause-meaning
returns-clause-meaning c = rw c.from_vec.ensures (each_taken file_of c.args.values.now c.loop-place.place c.loop-place.files.items c.loop-place-test.false c.loop-place.invariant.0)

pub returns-clause-lawful : goal.returns-clause-lawful
returns-clause-lawful c = rw c.from_vec.ensures c.loop-place.invariant.1
