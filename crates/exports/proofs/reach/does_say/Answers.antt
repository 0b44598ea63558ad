use Rattle.std.proofs.Common.{◌≡◌, ◌∙◌, true, subst, sym}
use Rattle.pep440.specs.Matching.{clause_matches}
use Rattle.pep440.specs.declared.specifier.Clause.{Clause}
use Rattle.exports.proofs.SaidConditions.{follows}
use Rattle.exports.proofs.reach.does_say.Goals as goal

pub returns-then-does_follow : goal.returns-then-does_follow
returns-then-does_follow c = λ is. follows c.args.clause.now c.args.wanted.now (sym c.does_follow.ensures ∙ c.if-does_follow.true)

pub returns : goal.returns
returns c = λ is version h. subst (λ (clause : Clause). clause_matches clause version ≡ true) (c.is_same.ensures is) h
