use Rattle.std.proofs.Common.{◌≡◌, ◌<◌, ◌^◌, Contains, get_or, sym, ◌∙◌, ap, subst, arith, rules}
use Rattle.std.proofs.lemmas.List.{get_or_default}
use Rattle.lists.proofs.BitSets.{not-within, within}
use Rattle.lists.proofs.bits.Bits.lies_within.Goals as goal

pub returns-then-index-word_at-ne0-clause-not : goal.returns-then-index-word_at-ne0-clause-not
returns-then-index-word_at-ne0-clause-not c _ h =
    let word : c.word_at.result ≡ get_or c.other.inside.words.items c.loop-at.at 0 = c.word_at.ensures ∙ ap (λ ws. get_or ws c.loop-at.at 0) c.as_slice.ensures.value in
    let self : c.index.result.now ≡ get_or c.self.inside.words.items c.loop-at.at 0 = c.index.ensures ∙ get_or_default c.self.inside.words.items c.loop-at.at c.index.result.now 0 (omega arith) in
    let small : c.index.result.now < 2 ^ 64 = search rules in
    not-within c.self.inside.words.items c.other.inside.words.items c.loop-at.at (subst (λ w. w < 2 ^ 64) self small) (subst (λ w. w < 2 ^ 64) word c.word_at.type_inv)
    (rw (sym self, sym word) c.if-index-word_at-ne0.true)
    (rw (c.self.view_is, c.other.view_is) h)

pub returns-clause-within : goal.returns-clause-within
returns-clause-within c _ n h = subst (λ ns. Contains ns n) c.other.view_is
    (within c.self.inside.words.items c.other.inside.words.items
    (λ k l. c.loop-at.invariant.small k (omega arith))
    (λ k l. c.loop-at.invariant.apart k (omega arith))
    n (subst (λ ns. Contains ns n) (sym c.self.view_is) h))
