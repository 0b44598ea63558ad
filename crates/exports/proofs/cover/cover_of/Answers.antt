use Rattle.std.proofs.Common.{◌∙◌}
use Rattle.exports.proofs.EachAnswer.{answers-alike}
use Rattle.exports.proofs.SameRules.{best-same, lock-same}
use Rattle.exports.proofs.cover.cover_of.Goals as goal

pub returns-clause-cover : goal.returns-clause-cover
returns-clause-cover c = record {
  lawful = c.recall_invariant.ensures;
  own = c.in_ok-conditions.ensures.own;
  tellable = c.in_ok-conditions.ensures.tellable;
  told = c.from_string-marker.ensures ∙ rw c.as_slice.ensures at c.in_ok-marker.ensures.told;
  answers = c.in_ok-conditions.ensures.answers;
  alike = λ other h.
      lock-same c.args.lines.now c.args.snapshot.now c.in_ok-target.target.environment other
      (best-same c.args.lines.now c.args.snapshot.now c.in_ok-target.target.environment other
      (answers-alike c.the_relations_decide.ensures c.args.lines.now c.args.snapshot.now c.in_ok-target.target.environment other (c.in_ok-conditions.ensures.answers other h)));
}
