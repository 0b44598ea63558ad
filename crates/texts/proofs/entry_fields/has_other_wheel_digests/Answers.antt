use Rattle.std.proofs.Common.{◌≡◌, ◌∙◌, map, subst, sym, true}
use Rattle.std.specs.List.{list_any}
use Rattle.lists.specs.Rising.{rises}
use Rattle.texts.specs.OtherFields.{has_other_digest}
use Rattle.texts.proofs.WheelSearch.{wheels-rise}
use Rattle.texts.proofs.entry_fields.has_other_wheel_digests.Goals as goal

pub has_other_wheels-requires : goal.has_other_wheels-requires
has_other_wheels-requires c = subst (λ files. rises (map (λ f. f.name) files) ≡ true) (sym c.wheels-2.ensures) (wheels-rise c.args.new.now c.recall_invariant.ensures.parts)

pub returns : goal.returns
returns c = c.has_other_wheels.ensures ∙ (λ i. list_any (λ file. list_any (has_other_digest file) (c.wheels-2.ensures i)) (c.wheels.ensures i))
