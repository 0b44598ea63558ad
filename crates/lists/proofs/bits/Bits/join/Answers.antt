use Rattle.std.proofs.Common.{get_or, sym, ◌∙◌, ap, subst, inl, inr, arith}
use Rattle.std.proofs.lemmas.Bool.{cases_lt}
use Rattle.std.proofs.lemmas.List.{get_or_past}
use Rattle.std.specs.Prelude.{bit_or}
use Rattle.lists.specs.Bits.{places_of, IsJoined}
use Rattle.std.specs.Int.Bits.{or_zero_r}
use Rattle.lists.proofs.BitSets.{joined}
use Rattle.lists.proofs.bits.Bits.join.Goals as goal

pub returns : goal.returns
returns c = subst (λ ns. IsJoined (places_of c.loop-at.self-inside.words.items) ns c.args.other.now) c.self.view_is
    (subst (λ ns. IsJoined (places_of c.loop-at.self-inside.words.items) (places_of c.self.inside.words.items) ns) c.other.view_is
    (joined c.loop-at.self-inside.words.items c.self.inside.words.items c.other.inside.words.items
    (λ k. elim (cases_lt k c.loop-at.at) [
      | inl low ↦ c.loop-at.invariant.done k low ∙ ap (λ w. bit_or w (get_or c.other.inside.words.items k 0)) (c.grow_to.ensures.same k)
      | inr high ↦ c.loop-at.invariant.rest k high ∙ c.grow_to.ensures.same k ∙ sym (ap (λ w. bit_or (get_or c.self.inside.words.items k 0) w) (get_or_past c.other.inside.words.items k 0 (omega arith)) ∙ or_zero_r (get_or c.self.inside.words.items k 0))
    ])))
