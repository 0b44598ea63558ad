use Rattle.std.proofs.Common.{◌≡◌, ◌∙◌, sym, true, false, eqb, get_or}
use Rattle.std.proofs.lemmas.Bool.{ne_eqb, eq-eqb}
use Rattle.pep440.proofs.MatchFacts.{begins-end, begins-step}
use Rattle.pep440.proofs.matching.begins.Goals as goal

pub returns-then-number_at-prefix : goal.returns-then-number_at-prefix
returns-then-number_at-prefix c =
    let step = begins-step c.args.release.now c.args.prefix.now c.loop-i.i c.loop-i-test.true in
    let other : eqb (get_or c.args.release.now c.loop-i.i 0) (get_or c.args.prefix.now c.loop-i.i 0) ≡ false =
    ne_eqb _ _ (λ e. c.if-number_at-prefix.true (c.number_at.ensures ∙ e)) in
    sym (rw other at step) ∙ c.loop-i.invariant

pub loop-i-preserved : goal.loop-i-preserved
loop-i-preserved c =
    let step = begins-step c.args.release.now c.args.prefix.now c.loop-i.i c.loop-i-test.true in
    let same : eqb (get_or c.args.release.now c.loop-i.i 0) (get_or c.args.prefix.now c.loop-i.i 0) ≡ true =
    eq-eqb _ _ (sym c.number_at.ensures ∙ c.if-number_at-prefix.false) in
    sym (rw same at step) ∙ c.loop-i.invariant

pub returns : goal.returns
returns c = sym (begins-end c.args.release.now c.args.prefix.now c.loop-i.i c.loop-i-test.false) ∙ c.loop-i.invariant
