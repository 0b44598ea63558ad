use Rattle.std.proofs.lemmas.Result.{err_from_is_err_and}
use Rattle.journal.proofs.PresentFacts.{named-all, named-more, named-not}
use Rattle.journal.proofs.history_reader.present.check_environments.Goals as goal

pub returns-in_err-check_environment : goal.returns-in_err-check_environment
returns-in_err-check_environment c =
    let p = err_from_is_err_and c.from_residual.result c.from_residual.ensures.1 in
    rw (p.1, p.2) (named-not c.args.targets.now c.loop-place.place c.index-targets-place.result c.in_err-check_environment.field-0.0 c.loop-place-test.true c.index-targets-place.is c.in_err-check_environment.ensures)

pub loop-place-preserved : goal.loop-place-preserved
loop-place-preserved c =
    named-more c.args.targets.now c.loop-place.place c.index-targets-place.result c.loop-place-test.true c.index-targets-place.is c.loop-place.invariant c.in_ok-check_environment.ensures

pub returns : goal.returns
returns c = named-all c.args.targets.now c.loop-place.place c.loop-place-test.false c.loop-place.invariant
