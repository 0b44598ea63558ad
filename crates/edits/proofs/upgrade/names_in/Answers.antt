use Rattle.std.proofs.Common.{arith}
use Rattle.std.proofs.lemmas.Grind.{common_steps}
use Rattle.std.proofs.lemmas.Result.{err_from_is_err_and}
use Rattle.edits.proofs.NamesRead.{all-on, names-on, names-refused}
use Rattle.edits.proofs.upgrade.names_in.Goals as goal

pub returns-in_err-name_in : goal.returns-in_err-name_in
returns-in_err-name_in c =
    let p = err_from_is_err_and c.from_residual-in_err-name_in.result c.from_residual-in_err-name_in.ensures.1 in
    rw (p.1, p.2) (names-refused c.args.texts.now c.loop-text.text-index c.text-item.result c.in_err-name_in.field-0.0 c.loop-text-test.true c.text-item.is
    c.loop-text.invariant.all c.in_err-name_in.ensures)

pub loop-text-preserved : goal.loop-text-preserved
loop-text-preserved c = record {
  names = rw c.in_ok-push.ensures.items
      (names-on c.args.texts.now c.loop-text.text-index c.text-item.result c.in_ok-name_in.field-0 c.loop-text.names.items c.loop-text-test.true c.text-item.is
      c.in_ok-name_in.ensures c.loop-text.invariant.names);
  all = all-on c.args.texts.now c.loop-text.text-index c.text-item.result c.in_ok-name_in.field-0 c.loop-text-test.true c.text-item.is
      c.in_ok-name_in.ensures c.loop-text.invariant.all;
}

pub returns : goal.returns
returns c = grind (arith, common_steps)
