use Rattle.exports.proofs.AskedRequirements.{clauses-said}
use Rattle.exports.proofs.reach.is_wider.Goals as goal

pub returns : goal.returns
returns c = λ is. record {
  named = rw (c.name.ensures, c.name-2.ensures) at (c.is_same.ensures.0 c.if-not-is_same.false);
  matched = λ version.
      clauses-said c.args.wanted.now.clauses c.args.wide.now.clauses
      (rw (c.clauses.ensures, c.specifiers.ensures, c.clauses-2.ensures, c.specifiers-2.ensures) at (c.are_followed.ensures is)) version;
}
