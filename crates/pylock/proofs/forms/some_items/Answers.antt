use Rattle.std.proofs.Common.{refl, sym, ◌∙◌}
use Rattle.pylock.proofs.FormFacts.{not_empty-view}
use Rattle.pylock.proofs.forms.some_items.Goals as goal

pub returns : goal.returns
returns c = rw (← c.in-Some.ensures, ← c.as_slice-values.ensures.value, not_empty-view c.as_slice-values.result.now (sym c.is_empty.ensures ∙ c.if-is_empty.false)) refl
