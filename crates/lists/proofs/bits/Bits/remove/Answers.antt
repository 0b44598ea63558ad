use Rattle.std.proofs.Common.{◌*◌, ◌/◌, ◌%◌, ◌^◌, [], ◌∷◌, set, ◌∙◌, subst, arith, w64}
use Rattle.std.proofs.lemmas.List.{get_or_default}
use Rattle.std.specs.Int.{bit_not}
use Rattle.std.specs.Prelude.{bit_and}
use Rattle.lists.specs.Bits.{places_of, IsDifference}
use Rattle.lists.proofs.BitSets.{removed, removed-past}
use Rattle.lists.proofs.bits.Bits.remove.Goals as goal

pub returns-then-at-len : goal.returns-then-at-len
returns-then-at-len c = subst (λ ns. IsDifference (places_of (set c.self.inside.words.items (c.args.place / 64) (bit_and c.index_mut.result.now (bit_not w64 (1 * 2 ^ (c.args.place % 64) % 2 ^ 64))))) ns (c.args.place ∷ [])) c.self.view_is
    (removed c.self.inside.words.items c.args.place c.index_mut.result.now (c.index_mut.ensures.value ∙ get_or_default c.self.inside.words.items (c.args.place / 64) c.index_mut.result.now 0 (omega arith)) (omega arith))

pub returns-else-at-len : goal.returns-else-at-len
returns-else-at-len c = subst (λ ns. IsDifference ns ns (c.args.place ∷ [])) c.self.view_is
    (removed-past c.self.inside.words.items c.args.place (omega arith))
