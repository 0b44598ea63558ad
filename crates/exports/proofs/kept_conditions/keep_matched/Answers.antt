use Rattle.std.proofs.Common.{◌≡◌, ◌∙◌, false, not, sym, true}
use Rattle.pep440.specs.Matching.{matches}
use Rattle.exports.specs.Tied.Answers.{is_matched_alike, is_release_alike}
use Rattle.exports.proofs.EachAnswer.{either-so, unmatched-alike}
use Rattle.exports.proofs.KeptConditions.{kept-as, kept-none}
use Rattle.exports.proofs.kept_conditions.keep_matched.Goals as goal

pub returns-then-not-matches : goal.returns-then-not-matches
returns-then-not-matches c =
    let fails : matches c.args.wanted.now.clauses c.args.release.now.version ≡ false = rw (c.specifiers.ensures, c.version.ensures) at (sym c.matches.ensures ∙ c.if-not-matches.true) in
    kept-none c.args.environment.now c.args.conditions.now (λ other. is_matched_alike c.args.environment.now other c.args.wanted.now c.args.release.now ≡ true)
    (λ other. unmatched-alike c.args.environment.now other c.args.wanted.now c.args.release.now fails)

pub returns : goal.returns
returns c =
    kept-as c.args.environment.now c.args.conditions.now c.keep_release.new.conditions
    (λ other. is_release_alike c.args.environment.now other c.args.release.now ≡ true) (λ other. is_matched_alike c.args.environment.now other c.args.wanted.now c.args.release.now ≡ true)
    c.in_ok-keep_release.ensures
    (λ other. either-so (not (matches c.args.wanted.now.clauses c.args.release.now.version)) (is_release_alike c.args.environment.now other c.args.release.now))
