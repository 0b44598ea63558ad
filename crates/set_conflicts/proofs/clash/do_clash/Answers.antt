use Rattle.set_conflicts.proofs.Listed.{item-member}
use Rattle.set_conflicts.proofs.clash.do_clash.Goals as goal

pub returns : goal.returns
returns c = λ t. record {
  one = c.index-conflict-one.result;
  other = c.index-conflict-other.result;
  there = item-member c.args.conflict.now c.args.one c.index-conflict-one.result c.if-one-conflict.false c.index-conflict-one.is;
  there_too = item-member c.args.conflict.now c.args.other c.index-conflict-other.result c.if-other-conflict.false c.index-conflict-other.is;
  clash = λ v w i j. c.in_ok-clash.ensures t v i w j;
}
