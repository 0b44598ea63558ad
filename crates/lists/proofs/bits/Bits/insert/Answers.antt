use Rattle.std.proofs.Common.{◌*◌, ◌/◌, ◌%◌, ◌^◌, [], ◌∷◌, set, ◌∙◌, subst, arith}
use Rattle.std.proofs.lemmas.List.{get_or_default}
use Rattle.std.specs.Prelude.{bit_or}
use Rattle.lists.specs.Bits.{places_of, IsJoined}
use Rattle.lists.proofs.BitSets.{inserted}
use Rattle.lists.proofs.bits.Bits.insert.Goals as goal

pub returns : goal.returns
returns c = subst (λ ns. IsJoined (places_of (set c.grow_to.new.words.items (c.args.place / 64) (bit_or c.index_mut.result.now (1 * 2 ^ (c.args.place % 64) % 2 ^ 64)))) ns (c.args.place ∷ [])) c.self.view_is
    (inserted c.self.inside.words.items c.grow_to.new.words.items c.args.place c.index_mut.result.now c.grow_to.ensures.same (c.index_mut.ensures.value ∙ get_or_default c.grow_to.new.words.items (c.args.place / 64) c.index_mut.result.now 0 (let r = c.in_ok-grow_to.ensures.room in omega arith)) (let r = c.in_ok-grow_to.ensures.room in omega arith))
