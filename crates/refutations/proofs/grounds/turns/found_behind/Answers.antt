use Rattle.refutations.specs.Tied.Cases.{is_same}
use Rattle.problems.proofs.WalkedLists.{some-behind}
use Rattle.refutations.proofs.grounds.turns.found_behind.Goals as goal

pub returns : goal.returns
returns c = some-behind (is_same c.args.member.now) c.args.conflict.now c.args.from c.place_behind.result c.place_behind.ensures
