use Rattle.std.proofs.Common.{[]}
use Rattle.problems.proofs.NodesMet.{own-few, own-met}
use Rattle.problems.proofs.OwnNeeds.{lawful-own, own-complete, own-walk}
use Rattle.problems.proofs.laws.own_needs_are_enough.Goals as goal

pub returns-clause-lawful : goal.returns-clause-lawful
returns-clause-lawful c = λ given. lawful-own given

pub returns-clause-needed : goal.returns-clause-needed
returns-clause-needed c = λ given chosen node needed. own-met given chosen node needed

pub returns-clause-few : goal.returns-clause-few
returns-clause-few c = λ given node version. own-few given node version

pub returns-clause-walk : goal.returns-clause-walk
returns-clause-walk c = λ given pins walk. own-walk c.other_extras_are_as_none.ensures given [] pins walk

pub returns-clause-complete : goal.returns-clause-complete
returns-clause-complete c = λ given chosen complete. own-complete c.other_extras_are_as_none.ensures given chosen complete
