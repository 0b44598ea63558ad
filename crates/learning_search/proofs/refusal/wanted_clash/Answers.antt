use Rattle.learning_search.proofs.DemandLists.{each-more, each-end}
use Rattle.search.proofs.Ranges.{at-member}
use Rattle.learning_search.specs.Tied.Demanded.{WantedFits}
use Rattle.learning_search.specs.Tied.Learned.{first_at}
use Rattle.search.specs.Table.{rules_of}
use Rattle.learning_search.proofs.refusal.wanted_clash.Goals as goal

pub wanted_clash_with-requires-clause-known : goal.wanted_clash_with-requires-clause-known
wanted_clash_with-requires-clause-known c = c.requires.known _ (at-member c.args.wants.now c.loop-requirement.requirement-index 0 c.loop-requirement-test.true)

pub loop-requirement-preserved : goal.loop-requirement-preserved
loop-requirement-preserved c = each-more (WantedFits (rules_of c.args.table.now) (first_at c.args.taken.now) c.args.candidate) c.args.wants.now c.loop-requirement.requirement-index 0 c.loop-requirement-test.true c.loop-requirement.invariant c.in_default.ensures

pub returns : goal.returns
returns c = each-end (WantedFits (rules_of c.args.table.now) (first_at c.args.taken.now) c.args.candidate) c.args.wants.now c.loop-requirement.requirement-index c.loop-requirement-test.false c.loop-requirement.invariant
