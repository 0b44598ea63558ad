use Rattle.std.proofs.Common.{arith, map}
use Rattle.std.proofs.lemmas.List.{take_all}
use Rattle.journal.specs.Commands.{asked_of}
use Rattle.journal.proofs.RunFacts.{Run-more, Run-of}
use Rattle.journal.proofs.runs.run.Goals as goal

pub loop-command-preserved : goal.loop-command-preserved
loop-command-preserved g c = record {
  run = rw c.push_reserved.ensures.items
      (Run-more asked_of _ _ c.command-item.result _ _ _ _ _ c.loop-command-test.true c.command-item.is c.loop-command.invariant.run c.apply-reply.ensures.step c.apply-reply.ensures.changes);
  len = omega arith;
  room = omega arith;
}

pub returns-clause-run : goal.returns-clause-run
returns-clause-run g c =
    let all = take_all c.loop-command.command-index c.args.commands.now (omega (arith, c.loop-command-test.false)) in
    rw c.from_vec.ensures (Run-of _ (map asked_of c.args.commands.now) _ _ (rw all at c.loop-command.invariant.run))
