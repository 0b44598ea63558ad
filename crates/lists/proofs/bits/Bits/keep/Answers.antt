use Rattle.std.proofs.Common.{get_or, sym, ◌∙◌, ap, subst, inl, inr, arith}
use Rattle.std.proofs.lemmas.Bool.{cases_lt}
use Rattle.std.proofs.lemmas.List.{get_or_past}
use Rattle.std.specs.Prelude.{bit_and}
use Rattle.std.specs.Int.Bits.{and_zero_l}
use Rattle.lists.specs.Bits.{places_of, IsCommon}
use Rattle.lists.proofs.BitSets.{common}
use Rattle.lists.proofs.bits.Bits.keep.Goals as goal

pub returns : goal.returns
returns c = subst (λ ns. IsCommon (places_of c.loop-at.self-inside.words.items) ns c.args.other.now) c.self.view_is
    (subst (λ ns. IsCommon (places_of c.loop-at.self-inside.words.items) (places_of c.self.inside.words.items) ns) c.other.view_is
    (common c.loop-at.self-inside.words.items c.self.inside.words.items c.other.inside.words.items
    (λ k. elim (cases_lt k c.loop-at.at) [
      | inl low ↦ c.loop-at.invariant.done k low
      | inr high ↦ c.loop-at.invariant.rest k high ∙ get_or_past c.self.inside.words.items k 0 (omega arith) ∙ sym (ap (λ w. bit_and w (get_or c.other.inside.words.items k 0)) (get_or_past c.self.inside.words.items k 0 (omega arith)) ∙ and_zero_l (get_or c.other.inside.words.items k 0))
    ])))
