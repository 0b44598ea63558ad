use Rattle.std.proofs.Common.{get_or, sym, ◌∙◌, ap, subst, inl, inr, arith, w64}
use Rattle.std.proofs.lemmas.Bool.{cases_lt}
use Rattle.std.proofs.lemmas.List.{get_or_past}
use Rattle.std.specs.Int.{bit_not}
use Rattle.std.specs.Prelude.{bit_and}
use Rattle.std.specs.Int.Bits.{and_zero_l}
use Rattle.lists.specs.Bits.{places_of, IsDifference}
use Rattle.lists.proofs.BitSets.{difference}
use Rattle.lists.proofs.bits.Bits.cut.Goals as goal

pub returns : goal.returns
returns c = subst (λ ns. IsDifference (places_of c.loop-at.self-inside.words.items) ns c.args.other.now) c.self.view_is
    (subst (λ ns. IsDifference (places_of c.loop-at.self-inside.words.items) (places_of c.self.inside.words.items) ns) c.other.view_is
    (difference c.loop-at.self-inside.words.items c.self.inside.words.items c.other.inside.words.items
    (λ k l. c.loop-at.invariant.small k (omega arith))
    (λ k. elim (cases_lt k c.loop-at.at) [
      | inl low ↦ c.loop-at.invariant.done k low
      | inr high ↦ c.loop-at.invariant.rest k high ∙ get_or_past c.self.inside.words.items k 0 (omega arith) ∙ sym (ap (λ w. bit_and w (bit_not w64 (get_or c.other.inside.words.items k 0))) (get_or_past c.self.inside.words.items k 0 (omega arith)) ∙ and_zero_l (bit_not w64 (get_or c.other.inside.words.items k 0)))
    ])))
