use Rattle.std.proofs.Common.{◌∙◌, sym}
use Rattle.set_refutations.proofs.SetsChecked.{refused-clash, refusing-clash}
use Rattle.set_refutations.proofs.set_grounds.clash.terms_clash.Goals as goal

pub returns-then-refuses_whole : goal.returns-then-refuses_whole
returns-then-refuses_whole c = sym (refused-clash c.args.problem.now c.args.one.now c.args.other.now (sym c.refuses_whole.ensures ∙ c.if-refuses_whole.true))

pub returns-then-is_refused_whole : goal.returns-then-is_refused_whole
returns-then-is_refused_whole c = sym (refusing-clash c.args.problem.now c.args.one.now c.args.other.now (sym c.is_refused_whole.ensures ∙ c.if-is_refused_whole.true))
