use Rattle.std.proofs.Common.{◌≡◌, ◌<◌, ◌^◌, Contains, get_or, sym, ◌∙◌, ap, subst, arith, rules}
use Rattle.std.proofs.lemmas.List.{get_or_default}
use Rattle.lists.proofs.BitSets.{met, apart}
use Rattle.lists.proofs.bits.Bits.meets.Goals as goal

pub returns-then-index-word_at-ne0-clause-common : goal.returns-then-index-word_at-ne0-clause-common
returns-then-index-word_at-ne0-clause-common c _ =
    let word : c.word_at.result ≡ get_or c.other.inside.words.items c.loop-at.at 0 = c.word_at.ensures ∙ ap (λ ws. get_or ws c.loop-at.at 0) c.as_slice.ensures.value in
    let self : c.index.result.now ≡ get_or c.self.inside.words.items c.loop-at.at 0 = c.index.ensures ∙ get_or_default c.self.inside.words.items c.loop-at.at c.index.result.now 0 (omega arith) in
    let small : c.index.result.now < 2 ^ 64 = search rules in
    let k = met c.self.inside.words.items c.other.inside.words.items c.loop-at.at (subst (λ w. w < 2 ^ 64) self small) (rw (sym self, sym word) c.if-index-word_at-ne0.true) in
    (k.0, subst (λ ns. Contains ns k.0) c.self.view_is k.1, subst (λ ns. Contains ns k.0) c.other.view_is k.2)

pub returns-clause-apart : goal.returns-clause-apart
returns-clause-apart c _ n h k = apart c.self.inside.words.items c.other.inside.words.items (λ j l. c.loop-at.invariant j (omega arith)) n (subst (λ ns. Contains ns n) (sym c.self.view_is) h) (subst (λ ns. Contains ns n) (sym c.other.view_is) k)
