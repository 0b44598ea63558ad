use Rattle.std.proofs.Common.{◌≡◌, eqb, true, false, get_or, rules, arith, sym, ◌∙◌, ap, Ok}
use Rattle.pep440.proofs.ReleaseFacts.{fit-more, release-digit, release-dot, release-end, release-large}
use Rattle.pep440.proofs.reading.release_numbers.Goals as goal
use Rattle.pep440.proofs.reading.release_numbers.Goals.{then-byte-eq46+in_ok-push, else-byte-eq46+in-Some}

pub returns-in_default : goal.returns-in_default
returns-in_default c =
    let other : eqb (get_or c.args.text.now c.loop-byte.byte-index 0) 46 ≡ false = search rules in
    release-large c.loop-byte.numbers.items _ c.loop-byte.value c.loop-byte.byte-index c.args.text.now c.loop-byte-test.true other c.in_default.ensures.none c.loop-byte.invariant.whole

pub loop-byte-preserved : goal.loop-byte-preserved
loop-byte-preserved c =
    elim c.if-byte-eq46.branch [
      | then-byte-eq46+in_ok-push w ↦
          let dot : eqb (get_or c.args.text.now c.loop-byte.byte-index 0) 46 ≡ true = search rules in
          let items = w.in_ok-push.ensures.items in
          record {
            whole = rw (w.numbers-is, w.value-is, items) (release-dot c.loop-byte.numbers.items _ c.loop-byte.value c.loop-byte.byte-index c.args.text.now c.loop-byte-test.true dot c.loop-byte.invariant.whole);
            small = rw w.value-is (omega arith);
            fit = rw (w.numbers-is, items) (fit-more c.loop-byte.numbers.items c.loop-byte.value c.loop-byte.invariant.small c.loop-byte.invariant.fit);
          }
      | else-byte-eq46+in-Some w ↦
          let other : eqb (get_or c.args.text.now c.loop-byte.byte-index 0) 46 ≡ false = search rules in
          let sum = w.in-Some.ensures.some in
          record {
            whole = rw (w.numbers-is, w.value-is, sum.0) (release-digit c.loop-byte.numbers.items _ c.loop-byte.value c.loop-byte.byte-index c.args.text.now c.loop-byte-test.true other c.loop-byte.invariant.whole);
            small = rw w.value-is sum.1;
            fit = rw w.numbers-is c.loop-byte.invariant.fit;
          }
    ]

pub returns : goal.returns
returns c =
    let fitting = release-end c.loop-byte.numbers.items _ c.loop-byte.value c.loop-byte.byte-index c.args.text.now (omega arith) c.loop-byte.invariant.small c.loop-byte.invariant.fit c.loop-byte.invariant.whole in
    fitting ∙ ap Ok (sym c.in_ok-push-2.ensures.items)
