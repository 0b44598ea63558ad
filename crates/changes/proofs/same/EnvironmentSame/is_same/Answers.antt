use Rattle.std.proofs.Common.{sym, ◌∙◌}
use Rattle.changes.proofs.EnvironmentTexts.{texts-alike, texts-same}
use Rattle.changes.proofs.same.EnvironmentSame.is_same.Goals as goal

pub returns : goal.returns
returns c = (
  (λ is. texts-same c.args.self.now c.args.other.now c.recall_invariant.ensures.count c.recall_invariant-2.ensures.count (sym c.have_same_texts.ensures ∙ is)),
  (λ same. c.have_same_texts.ensures ∙ texts-alike c.args.self.now c.args.other.now same),
)
