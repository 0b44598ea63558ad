use Rattle.std.proofs.Common.{◌≡◌, ◌∙◌, sym, arith, take}
use Rattle.pep440.specs.Blanks.{is_blank}
use Rattle.pep440.specs.Text.{trim_end}
use Rattle.pep440.proofs.TextFacts.{trim_end-back, trim_end-stop}
use Rattle.pep440.proofs.blank.trim_end.Goals as goal
use Rattle.pep440.proofs.blank.trim_end.Goals.{then-loop-len-test+else-has, else-loop-len-test}

pub loop-len-preserved : goal.loop-len-preserved
loop-len-preserved c =
    (omega arith, trim_end-back (is_blank c.args.blank) c.args.text.now c.loop-len.len c.loop-len-test.true c.loop-len.invariant.0 (sym c.if-has.ensures) ∙ c.loop-len.invariant.1)

pub returns : goal.returns
returns c =
    elim c.loop-len-test.branch [
      | then-loop-len-test+else-has w ↦
          sym (trim_end-stop (is_blank c.args.blank) c.args.text.now c.loop-len.len w.loop-len-test.true c.loop-len.invariant.0 (sym w.if-has.ensures)) ∙ c.loop-len.invariant.1
      | else-loop-len-test w ↦
          let none : c.loop-len.len ≡ 0 = omega arith in
          let e : trim_end (is_blank c.args.blank) (take 0 c.args.text.now) ≡ trim_end (is_blank c.args.blank) c.args.text.now = rw none at c.loop-len.invariant.1 in
          rw none e
    ]
