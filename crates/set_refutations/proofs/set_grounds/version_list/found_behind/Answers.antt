use Rattle.problems.specs.Rules.{same_version}
use Rattle.problems.proofs.WalkedLists.{some-behind}
use Rattle.set_refutations.proofs.set_grounds.version_list.found_behind.Goals as goal

pub returns : goal.returns
returns c = some-behind (λ listed. same_version listed c.args.version.now) c.args.versions.now c.args.from c.place_behind.result c.place_behind.ensures
