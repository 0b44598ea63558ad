use Rattle.std.proofs.Common.{◌∙◌, sym}
use Rattle.exports.proofs.EachAnswer.{asked-apart, each-alike, lines-apart}
use Rattle.exports.proofs.answers.do_answer_alike.Goals as goal

pub returns-then-not-branch-clause-apart : goal.returns-then-not-branch-clause-apart
returns-then-not-branch-clause-apart c = λ is.
    lines-apart c.args.lines.now c.args.snapshot.now c.args.one.now c.args.other.now (sym c.in_ok-are_lines_alike.ensures ∙ c.if-not-branch.true)

pub returns-clause-alike : goal.returns-clause-alike
returns-clause-alike c = λ is.
    each-alike c.args.lines.now c.args.snapshot.now c.args.asked.now c.args.one.now c.args.other.now c.requires (record {
      of_lines = sym c.in_ok-are_lines_alike.ensures ∙ c.if-not-branch.false;
      of_asked = rw c.requirements.ensures at (sym c.in_ok-alike.ensures ∙ is);
    })

pub returns-clause-apart : goal.returns-clause-apart
returns-clause-apart c = λ is.
    asked-apart c.args.lines.now c.args.snapshot.now c.args.asked.now c.args.one.now c.args.other.now c.requires (rw c.requirements.ensures at (sym c.in_ok-alike.ensures ∙ is))
