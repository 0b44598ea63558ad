use Rattle.std.proofs.Common.{sym, ◌∙◌}
use Rattle.snapshot.proofs.ValueFacts.{not_asked, put, stays}
use Rattle.snapshot.proofs.members.keep.Goals as goal

pub returns-then-is_none : goal.returns-then-is_none
returns-then-is_none c = λ others. put c.args.key.now c.args.value others _ _ c.args.found.now c.in-Some.place c.requires.apart (sym c.place_of.ensures.place ∙ c.in-Some.is) c.if-is_none.ensures

pub returns-else-is_none : goal.returns-else-is_none
returns-else-is_none c = λ others. stays c.args.key.now c.args.value others _ _ c.args.found.now c.in-Some.place c.requires.apart (sym c.place_of.ensures.place ∙ c.in-Some.is) c.if-is_none.ensures

pub returns-in_default : goal.returns-in_default
returns-in_default c = λ others. not_asked c.args.key.now _ _ others c.args.found.now (sym c.place_of.ensures.place ∙ c.in_default.is)
