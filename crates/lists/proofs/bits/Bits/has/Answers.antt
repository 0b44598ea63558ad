use Rattle.std.proofs.Common.{◌≡◌, true, false, Contains, sym, ◌∙◌, ap, subst, eqb-true, eq-eqb}
use Rattle.lists.specs.Bits.{has_bit}
use Rattle.lists.proofs.BitSets.{has-there, there-has}
use Rattle.lists.proofs.bits.Bits.has.Goals as goal

pub returns-clause-there : goal.returns-clause-there
returns-clause-there c h = subst (λ ns. Contains ns c.args.place) c.self.view_is (has-there c.self.inside.words.items c.args.place
    (eqb-true _ 1 (ap (λ ws. has_bit ws c.args.place) (sym c.as_slice.ensures.value) ∙ sym c.is_set.ensures ∙ h)))

pub returns-clause-absent : goal.returns-clause-absent
returns-clause-absent c h k =
    let i = there-has c.self.inside.words.items c.args.place (subst (λ ns. Contains ns c.args.place) (sym c.self.view_is) k) in
    let j : c.is_set.result ≡ true = c.is_set.ensures ∙ ap (λ ws. has_bit ws c.args.place) c.as_slice.ensures.value ∙ eq-eqb _ 1 i in
    let n : c.is_set.result ≡ false = h in
    cc
