use Rattle.std.proofs.Common.{◌≡◌, true}
use Rattle.std.specs.List.{AllByRecursion}
use Rattle.snapshot.specs.Packages.{releases_of}
use Rattle.exports.specs.Tied.Answers.{are_matched_alike, is_matched_alike}
use Rattle.exports.proofs.EachAnswer.{all-so}
use Rattle.exports.proofs.KeptConditions.{kept-as, kept-more, kept-start, kept-whole}
use Rattle.exports.proofs.conditions.keep_asked.Goals as goal

pub loop-wanted-init : goal.loop-wanted-init
loop-wanted-init c =
    kept-start (λ other wanted. are_matched_alike c.args.environment.now other c.args.snapshot.now wanted ≡ true) c.args.environment.now c.args.conditions.now c.args.asked.now

pub loop-wanted-preserved : goal.loop-wanted-preserved
loop-wanted-preserved c =
    kept-more (λ other wanted. are_matched_alike c.args.environment.now other c.args.snapshot.now wanted ≡ true) c.args.environment.now c.args.conditions.now c.loop-wanted.conditions
    c.keep_matching.new.conditions c.args.asked.now c.loop-wanted.wanted-index c.wanted-item.result c.loop-wanted-test.true c.wanted-item.is
    c.loop-wanted.invariant
    (kept-as c.args.environment.now c.loop-wanted.conditions c.keep_matching.new.conditions
    (λ other. AllByRecursion (λ release. is_matched_alike c.args.environment.now other c.wanted-item.result release ≡ true) (releases_of c.wanted-item.result.name c.args.snapshot.now.packages))
    (λ other. are_matched_alike c.args.environment.now other c.args.snapshot.now c.wanted-item.result ≡ true)
    (rw (c.releases.ensures.listed, c.name.ensures) at c.in_ok-keep_matching.ensures)
    (λ other. all-so (is_matched_alike c.args.environment.now other c.wanted-item.result) (releases_of c.wanted-item.result.name c.args.snapshot.now.packages)))

pub returns : goal.returns
returns c =
    kept-whole (λ other wanted. are_matched_alike c.args.environment.now other c.args.snapshot.now wanted ≡ true) c.args.environment.now c.args.conditions.now c.loop-wanted.conditions
    c.args.asked.now c.loop-wanted.wanted-index c.loop-wanted-test.false c.loop-wanted.invariant
