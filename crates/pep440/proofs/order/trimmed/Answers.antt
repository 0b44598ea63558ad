use Rattle.std.proofs.Common.{◌≡◌, ◌∙◌, sym, ◌-◌, eqb, false, true, get_or, rules, arith, take}
use Rattle.pep440.specs.Order.{trimmed}
use Rattle.pep440.proofs.TextFacts.{trim_end-back, trim_end-stop}
use Rattle.pep440.proofs.order.trimmed.Goals as goal
use Rattle.pep440.proofs.order.trimmed.Goals.{then-loop-len-test+else-release-len-eq0, else-loop-len-test}

pub loop-len-preserved : goal.loop-len-preserved
loop-len-preserved c =
    let last : eqb (get_or c.args.release.now (c.loop-len.len - 1) 0) 0 ≡ true = search rules in
    (omega arith, trim_end-back (λ n. eqb n 0) c.args.release.now c.loop-len.len c.loop-len-test.true c.loop-len.invariant.0 last ∙ c.loop-len.invariant.1)

pub returns : goal.returns
returns c =
    elim c.loop-len-test.branch [
      | then-loop-len-test+else-release-len-eq0 w ↦
          let last : eqb (get_or c.args.release.now (c.loop-len.len - 1) 0) 0 ≡ false = search rules in
          sym (trim_end-stop (λ n. eqb n 0) c.args.release.now c.loop-len.len w.loop-len-test.true c.loop-len.invariant.0 last) ∙ c.loop-len.invariant.1
      | else-loop-len-test w ↦
          let none : c.loop-len.len ≡ 0 = omega arith in
          let e : trimmed (take 0 c.args.release.now) ≡ trimmed c.args.release.now = rw none at c.loop-len.invariant.1 in
          rw none e
    ]
